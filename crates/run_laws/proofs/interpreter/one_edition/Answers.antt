use Rattle.run_laws.proofs.OneEdition.{output-one, one-legal}
use Rattle.run_laws.proofs.interpreter.one_edition.Goals as goal

pub returns-clause-prints : goal.returns-clause-prints
returns-clause-prints c = output-one

pub returns-clause-legal : goal.returns-clause-legal
returns-clause-legal c = one-legal
