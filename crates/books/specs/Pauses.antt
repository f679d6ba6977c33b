-- Which quarters a break from driving is made of: rest alone, or all that is not driving. Assumes nothing.
use Rattle.std.specs.Prelude.{Bool, not}
use Rattle.duty.specs.declared.Duty.{Duty}
use Rattle.duty.specs.Duties.{resting, driving}
use Rattle.books.specs.declared.pause.Pause.{Pause}
use Rattle.books.specs.declared.pause.Pause.TheVariants as kind

abbrev pub pauses : Pause → Duty → Bool
pauses kind.Rest x = resting x
pauses kind.OffWheel x = not (driving x)
