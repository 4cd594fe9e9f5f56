use Rattle.buck_book_writer.proofs.fours.put_threes.Goals as goal

pub returns : goal.returns
returns c =
    rw (c.three-a.ensures, c.three-b.ensures, c.three-c.ensures, c.three-d.ensures) c.put.ensures
