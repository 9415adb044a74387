-- What is known of a live run that was opened. [This profile.]
use Rattle.edition_register.specs.Seats.{first_of}
use Rattle.live_session.specs.declared.opening.LiveRun.{LiveRun}
use Rattle.live_session.specs.Sides.{IsDeskReady, IsIntakeReady}
use Rattle.mib_model.specs.declared.database.Database.{Database}

-- the tables with which it begins
abbrev pub first_in : {W : Type 0} → LiveRun W → Database
first_in run = first_of run.register

-- what is to be told of its packets
abbrev pub watch_in : {W : Type 0} → LiveRun W → W
watch_in run = run.intake.watch

-- its intake and its desk have their seats at its register, and neither has done anything yet
pub record IsOpened {W : Type 0} (run : LiveRun W) : Type 0 where
  pub intake : IsIntakeReady run.register run.intake.seat run.intake.first run.intake.stock
  pub desk : IsDeskReady run.register run.desk.seat run.desk.desk
