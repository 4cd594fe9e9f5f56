use Rattle.buck_book_writer.proofs.fours.put_twos.Goals as goal

pub returns : goal.returns
returns c =
    rw (c.two-a.ensures, c.two-b.ensures, c.two-c.ensures, c.two-d.ensures) c.put.ensures
