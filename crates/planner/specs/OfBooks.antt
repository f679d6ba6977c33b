-- What calls answer, by the card and the tour that they are made on and what is said of the card's book. Assumes nothing.
--   Book, Better                   the ghost members of a book and of its rows
--   start_label book card tour     the label at the beginning of the tour
--   CarriedBy .. b from n x b' o   what the book b finds in n quarters of x, and the book then
--   RecordedOn .. card' r          the answer to a record, and the card then
--   SearchedFor .. r               the first end of a schedule of the tour, or why none is found
--   SolvedFor .. out r             a schedule of the tour, or why none is found
--   PlannedFor .. out r            the answer to any plan
--   AnswersPlanFor .. a            the same in a run of calls
--   AnswersCallOn .. card' tour'   the answer to a call, and the card and the tour then
--   KeptBy .. b h calls answers    from the history h on, each answer fits its call in turn
use Rattle.std.specs.Prelude.{ℕ, List, Option, Result}
use Rattle.duty.specs.declared.Duty.{Duty}
use Rattle.rules.specs.declared.book.Figures.{Ghosts as Better}
use Rattle.rules.specs.declared.book.RuleBook.{Ghosts as Book}
use Rattle.rules.specs.declared.breach.Breach.{Breach}
use Rattle.rules.specs.declared.refusal.Refusal.{Refusal}
use Rattle.planning.specs.declared.Label.{Label}
use Rattle.planning.specs.Moves.{label_at}
use Rattle.planner.specs.declared.call.Buffers.{Buffers}
use Rattle.planner.specs.declared.call.Call.{Call}
use Rattle.planner.specs.declared.card.DriverCard.{DriverCard}
use Rattle.planner.specs.declared.search.End.{End}
use Rattle.planner.specs.declared.size.Size.{Size}
use Rattle.planner.specs.declared.tour.Tour.{Tour}
use Rattle.planner.specs.History.{History}
use Rattle.planner.specs.Outcome.{Searched}
use Rattle.planner.specs.Plans.{Solved, Planned}
use Rattle.planner.specs.Promise.{Answer, Kept}
use Rattle.planner.specs.Recorded.{Carried, Recorded}
use Rattle.planner.specs.Standing.{AnswersPlan, AnswersCall}
use Rattle.planner.specs.Toured.{stops_of}

abbrev pub start_label : {B R : Type 0} → Book B R → DriverCard B → Tour → Label R
start_label book card tour = label_at (stops_of tour) 0 0 (book.figures card.book)

abbrev pub CarriedBy : {B R : Type 0} → Book B R → B → ℕ → ℕ → Duty → B → Option Breach → Type 0
CarriedBy book b from count x b' o = Carried book.names book.after (book.figures b) from count x (book.figures b') o

abbrev pub RecordedOn : {B R : Type 0} → Book B R → DriverCard B → ℕ → ℕ → DriverCard B → Result (Unit {0}) Refusal → Type 0
RecordedOn book card letter count card' r = Recorded book.names book.after (book.figures card.book) card.now letter count (book.figures card'.book) card'.now r

abbrev pub SearchedFor : {B R : Type 0} → Book B R → Better R → DriverCard B → Tour → Size → List ℕ → Result End Refusal → Type 0
SearchedFor book rows card tour size trail r =
    Searched book.names book.after rows.better (stops_of tour) (book.figures card.book) card.now size.width size.span trail r

abbrev pub SolvedFor : {B R : Type 0} → Book B R → Better R → DriverCard B → Tour → Size → List ℕ → Result ℕ Refusal → Type 0
SolvedFor book rows card tour size out r =
    Solved book.names book.after rows.better (stops_of tour) (book.figures card.book) card.now size.width size.span out r

abbrev pub PlannedFor : {B R : Type 0} → Book B R → Better R → DriverCard B → Tour → ℕ → ℕ → List ℕ → Result ℕ Refusal → Type 0
PlannedFor book rows card tour labels predecessors out r =
    Planned book.names book.after rows.better (stops_of tour) (book.figures card.book) card.now labels predecessors out r

abbrev pub AnswersPlanFor : {B R : Type 0} → Book B R → Better R → DriverCard B → Tour → Buffers → Answer → Type 0
AnswersPlanFor book rows card tour buffers a =
    AnswersPlan book.names book.after rows.better (stops_of tour) (book.figures card.book) card.now buffers a

abbrev pub AnswersCallOn : {B R : Type 0} → Book B R → Better R → DriverCard B → Tour → Call → Answer → DriverCard B → Tour → Type 0
AnswersCallOn book rows card tour call a card' tour' =
    AnswersCall book.names book.after rows.better book.sound book.opened book.lawful (book.figures card.book) card.now (stops_of tour) call a (book.figures card'.book) card'.now (stops_of tour')

abbrev pub KeptBy : {B R : Type 0} → Book B R → Better R → B → History → List Call → List Answer → Type 0
KeptBy book rows b h calls answers =
    Kept book.names book.after rows.better (book.opened (book.figures b)) (book.lawful (book.figures b)) h calls answers
