-- What is printed for a text, by the answer to it.
use Rattle.std.proofs.Common.{◌≡◌, ℕ, List, length, take, drop, Ok, Err, vec_items, vec_len, string_bytes, Vec, String, sym, ap, ◌∙◌, subst, inl, inr, arith}
use Rattle.std.proofs.lemmas.List.{take_at, length-append, length-drop, with_items_is}
use Rattle.std.specs.Vec.{with_items}
use Rattle.std.specs.String.{string_vec}
use Rattle.rules.specs.declared.refusal.Refusal.{Refusal}
use Rattle.rules.specs.Refusals.{number}
use Rattle.replies.specs.Promised.{Reply, Answered}
use Rattle.replies.specs.Printing.{whole_refused, Printed}

pub answer_length : (text before after : List ℕ) (n : ℕ) → Answered text before after (Ok (Ok n)) → length after ≡ length before
answer_length text before after n a =
    omega (arith, ap length a.1.4, length-append a.1.0 (drop n before), length-drop n before, a.1.2, a.1.3)

-- what is kept of a buffer that was written as a whole
pub kept-front : {Z : Type 0} (v : Vec ℕ Z) (after kept : List ℕ) (n : ℕ) → length after ≡ vec_len v → kept ≡ take n (vec_items (with_items v after)) → kept ≡ take n after
kept-front v after kept n long e = e ∙ ap (take n) (with_items_is v after long)

pub reply-printed : (text before after bytes : List ℕ) (n : ℕ) → length before ≡ 65536 → Answered text before after (Ok (Ok n)) → bytes ≡ take n after → Printed text bytes
reply-printed text before after bytes n room a e =
    let same : bytes ≡ a.1.0 = e ∙ ap (take n) a.1.4 ∙ take_at a.1.0 (drop n before) n (sym a.1.2) in
    inl (a.0, subst (Reply text) (sym same) a.1.1, omega (arith, ap length same, a.1.2, a.1.3))

-- the bytes of a written line that refuses
pub written : {Z : Type 0} (line : String Z) (bytes : Vec ℕ Z) (m : ℕ) (why : Refusal) → bytes ≡ string_vec line → string_bytes line ≡ whole_refused m → m ≡ number why → vec_items bytes ≡ whole_refused (number why)
written line bytes m why e f g = ap vec_items e ∙ f ∙ ap whole_refused g

pub refusal_printed : (text before after bytes : List ℕ) (why : Refusal) → length before ≡ 65536 → Answered text before after (Ok (Err why)) → bytes ≡ whole_refused (number why) → Printed text bytes
refusal_printed text before after bytes why room a e =
    elim a [
      | inl p ↦ inr (inl (p.1, e ∙ ap whole_refused p.0))
      | inr p ↦ inr (inr (p.1, (p.2.0, p.2.1, omega (arith, p.2.2)), e ∙ ap whole_refused p.0))
    ]
