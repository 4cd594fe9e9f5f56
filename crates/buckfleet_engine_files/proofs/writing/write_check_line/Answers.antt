use Rattle.buckfleet_engine_files.proofs.writing.write_check_line.Goals as goal

pub returns-in-Other : goal.returns-in-Other
returns-in-Other g c = rw (c.in-Other.is, ← c.from.ensures) c.write_line.ensures

pub returns-in-Uncut : goal.returns-in-Uncut
returns-in-Uncut g c = rw (c.in-Uncut.is, ← c.from-in-Uncut.ensures) c.write_line-in-Uncut.ensures

pub returns-in-Surplus : goal.returns-in-Surplus
returns-in-Surplus g c = rw (c.in-Surplus.is, ← c.from-in-Surplus.ensures) c.write_line-in-Surplus.ensures

pub returns-in-Price : goal.returns-in-Price
returns-in-Price g c =
    rw (c.in-Price.is, ← c.from-in-Price.ensures, ← c.from-in-Price-2.ensures) c.write_line-in-Price.ensures
