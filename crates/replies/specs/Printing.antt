-- What is printed for a text. Assumes nothing.
--   whole_refused n      the line that refuses a whole text with n
--   Printed text bytes   the bytes are the reply to the text; or that line with 2, where the text is too long, or with 9, where the
--                        reply is
use Rattle.std.specs.Prelude.{◌≡◌, ℕ, ◌<◌, ◌≤◌, ◌⊎◌, List, [], ◌∷◌, ◌++◌, length, codes, decimal}
use Rattle.replies.specs.Promised.{Reply}

abbrev pub whole_refused : ℕ → List ℕ
whole_refused n = codes "refused,0," ++ (decimal n ++ 10 ∷ [])

abbrev pub Printed : List ℕ → List ℕ → Type 0
Printed text bytes =
    ((length text ≤ 4096) × Reply text bytes × (length bytes ≤ 65536))
    ⊎ (((4096 < length text) × (bytes ≡ whole_refused 2))
    ⊎ ((length text ≤ 4096) × ((reply : List ℕ) × Reply text reply × (65536 < length reply)) × (bytes ≡ whole_refused 9)))
