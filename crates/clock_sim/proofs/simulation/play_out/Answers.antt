-- A rehearsal that is played to its end has the report of the house.
use Rattle.clock_sim.proofs.StepLaws.{reported, faulted}
use Rattle.clock_sim.proofs.simulation.play_out.Goals as goal

pub returns-clause-setup : goal.returns-clause-setup
returns-clause-setup g c = c.play.ensures.step.setup

pub returns-clause-ok : goal.returns-clause-ok
returns-clause-ok g c = reported c.args.hub.now.house c.play.new.hub.house c.args.scripts.now c.args.closings.now
    c.play.result c.requires.first c.play.ensures.step

pub returns-clause-err : goal.returns-clause-err
returns-clause-err g c = faulted c.args.hub.now.house c.play.new.hub.house c.args.scripts.now c.args.closings.now
    c.play.result c.requires.first c.play.ensures.step
