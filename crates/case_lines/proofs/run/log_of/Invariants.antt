use Rattle.std.proofs.Common.{◌≡◌, ◌-◌, ℕ, List, length, take, drop}
use Rattle.std.specs.Iterator.Adapters.{skip_source, skip_count}
use Rattle.std.specs.Str.Iter.{split_whitespace_rest}
use Rattle.case_lines.specs.declared.run.Run.{Run}
use Rattle.case_lines.specs.Spelled.{Begins, SpellEach, letters}
use Rattle.case_lines.proofs.run.log_of.Given as goal

-- the first word is passed over until one is taken
abbrev pub invariant-loop-word : goal.invariant-loop-word
invariant-loop-word l =
    (words : List (List ℕ)) × (runs : List Run) × (skip_count l.word-iterator ≡ 1 - length words)
    × Begins l.line words (split_whitespace_rest (skip_source l.word-iterator)) × SpellEach (drop 1 words) runs × (l.log.items ≡ take 2689 (letters runs))
