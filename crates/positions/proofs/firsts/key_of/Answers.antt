-- `positions::firsts::key_of` meets its contract: each arm is one case of the definition.
use Rattle.positions.proofs.firsts.key_of.Goals as goal

pub returns-in-Place : goal.returns-in-Place
returns-in-Place c = rw c.in-Place.is c.place_key.ensures

pub returns-in-Thread : goal.returns-in-Thread
returns-in-Thread c = rw c.in-Thread.is c.thread.ensures

pub returns-in-Start : goal.returns-in-Start
returns-in-Start c = rw c.in-Start.is c.start_key.ensures

pub returns-in-Ident : goal.returns-in-Ident
returns-in-Ident c = rw (c.in-Ident.is, c.ident.ensures)
