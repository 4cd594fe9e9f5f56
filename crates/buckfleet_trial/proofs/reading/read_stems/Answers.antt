use Rattle.std.proofs.Common.{length, map, sym}
use Rattle.std.proofs.lemmas.List.{length-map}
use Rattle.buckfleet_trial.proofs.ReadLemmas.{room_many, room_refused, says_input}
use Rattle.buckfleet_trial.proofs.reading.read_stems.Goals as goal

pub returns-in_err-check_room-clause-refused : goal.returns-in_err-check_room-clause-refused
returns-in_err-check_room-clause-refused g c =
    let read = c.in_ok-input.ensures in
    let apt = g.R.Read.remaining c.args.apt.now in
    let stms = map g.R.Read.remaining c.args.stms.now in
    room_refused apt stms c.in_ok-input.input.instruction c.in_ok-input.input.lists.items _ _
    (says_input apt stms (length c.args.stms.now) c.in_ok-input.input.instruction c.in_ok-input.input.lists.items
    read.some
    (sym (length-map c.args.stms.now g.R.Read.remaining)) read.instruction read.number read.lists)
    c.in_err-check_room.ensures.full c.from_residual-in_err-check_room.ensures.1

pub returns-in_err-check_room-clause-full : goal.returns-in_err-check_room-clause-full
returns-in_err-check_room-clause-full g c =
    let read = c.in_ok-input.ensures in
    let apt = g.R.Read.remaining c.args.apt.now in
    let stms = map g.R.Read.remaining c.args.stms.now in
    room_many apt stms c.in_ok-input.input.instruction c.in_ok-input.input.lists.items c.as_slice.result.now _
    (says_input apt stms (length c.args.stms.now) c.in_ok-input.input.instruction c.in_ok-input.input.lists.items
    read.some
    (sym (length-map c.args.stms.now g.R.Read.remaining)) read.instruction read.number read.lists)
    c.as_slice.ensures.value c.in_err-check_room.ensures.many
