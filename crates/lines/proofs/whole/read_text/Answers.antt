use Rattle.std.proofs.Common.{◌≡◌, ◌+◌, ◌<◌, [], ◌∷◌, ◌++◌, length, vec_items, vec_len, sym, ap, ◌∙◌, subst, arith}
use Rattle.std.proofs.lemmas.List.{append_assoc, append-nil, nil_from_length}
use Rattle.std.proofs.lemmas.Bool.{eqb-true, eqb-false}
use Rattle.fields.proofs.Cutting.{rest_shorter}
use Rattle.lines.specs.Says.{Reads}
use Rattle.lines.specs.Texts.{ReadFrom}
use Rattle.lines.proofs.whole.read_text.Goals as goal

pub loop-rest-preserved : goal.loop-rest-preserved
loop-rest-preserved c =
    let rest = c.loop-rest.rest.now in
    let after = c.first_line.result.1.now in
    let nonempty = eqb-false (length rest) 0 (sym c.loop-rest-test.ensures) in
    let some : 0 < length rest = omega arith in
    let shorter = rest_shorter rest c.first_line.result.0.now after c.first_line.ensures some in
    let count : vec_len c.push.new.self ≡ vec_len c.loop-rest.readings + 1 = c.in_ok-push.ensures.len in (
      omega (arith, c.loop-rest.invariant.0),
      λ more k.
          let pushed : vec_items c.push.new.self ++ more ≡ vec_items c.loop-rest.readings ++ (c.read_line.result ∷ more) = ap (λ xs. xs ++ more) c.in_ok-push.ensures.items ∙ append_assoc (vec_items c.loop-rest.readings) (c.read_line.result ∷ []) more in
          subst (ReadFrom 1 c.args.text.now) (sym pushed)
          (c.loop-rest.invariant.1 (c.read_line.result ∷ more)
          (c.first_line.result.0.now, after, some, c.first_line.ensures, subst (λ n. Reads (n + 1) c.first_line.result.0.now c.read_line.result) c.len-place.ensures c.read_line.ensures, subst (λ n. ReadFrom (n + 1) after more) count k)),
    )

pub returns : goal.returns
returns c =
    let empty : c.loop-rest.rest.now ≡ [] = nil_from_length _ (eqb-true (length c.loop-rest.rest.now) 0 (sym c.loop-rest-test.ensures)) in
    subst (ReadFrom 1 c.args.text.now) (append-nil (vec_items c.loop-rest.readings)) (c.loop-rest.invariant.1 [] empty)
