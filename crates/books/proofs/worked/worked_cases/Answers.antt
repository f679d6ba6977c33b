use Rattle.books.proofs.Cases.{worked}
use Rattle.books.proofs.worked.worked_cases.Goals as goal

pub returns : goal.returns
returns c = worked
