use Rattle.std.proofs.Common.{◌≡◌, length, Ok, Err, vec_items, vec_len, ◌∙◌, subst, arith}
use Rattle.replies.specs.Promised.{Answered}
use Rattle.replies.proofs.Named.{breaches_first}
use Rattle.replies.proofs.Printouts.{answer_length, kept-front, reply-printed, written, refusal_printed}
use Rattle.replies.proofs.printing.printed.Goals as goal

pub returns-in_err-length-clause-breaches : goal.returns-in_err-length-clause-breaches
returns-in_err-length-clause-breaches c = breaches_first

pub returns-in_err-line-in-Err-clause-breaches : goal.returns-in_err-line-in-Err-clause-breaches
returns-in_err-line-in-Err-clause-breaches c = breaches_first

pub returns-in-Ok : goal.returns-in-Ok
returns-in-Ok c =
    let text = c.args.text.now in
    let before = c.as_mut_slice.result.now in
    let after = c.answer.new.output in
    let n = c.in-Ok.length in
    let answered : Answered text before after (Ok (Ok n)) = subst (λ r. Answered text before after (Ok r)) c.in-Ok.is c.in_ok-length.ensures in
    let room : length before ≡ 65536 = omega (arith, c.as_mut_slice.ensures.len, c.in_ok-output.ensures.len) in
    let long : length after ≡ vec_len c.in_ok-output.output = answer_length text before after n answered ∙ c.as_mut_slice.ensures.len in
    record {
      value = reply-printed text before after (vec_items c.truncate.new.self) n room answered
          (kept-front c.in_ok-output.output after (vec_items c.truncate.new.self) n long c.truncate.ensures.items);
      breaches = breaches_first;
    }

pub returns-in_ok-line-in-Err : goal.returns-in_ok-line-in-Err
returns-in_ok-line-in-Err c =
    let text = c.args.text.now in
    let before = c.as_mut_slice.result.now in
    let after = c.answer.new.output in
    let why = c.in-Err.why in
    let answered : Answered text before after (Ok (Err why)) = subst (λ r. Answered text before after (Ok r)) c.in-Err.is c.in_ok-length.ensures in
    let room : length before ≡ 65536 = omega (arith, c.as_mut_slice.ensures.len, c.in_ok-output.ensures.len) in
    record {
      value = refusal_printed text before after (vec_items c.into_bytes.result) why room answered
          (written c.in_ok-line-in-Err.line c.into_bytes.result c.from-number.result why c.into_bytes.ensures.value c.in_ok-line-in-Err.ensures.ok c.from-number.ensures);
      breaches = breaches_first;
    }

pub returns-in_err-output-clause-breaches : goal.returns-in_err-output-clause-breaches
returns-in_err-output-clause-breaches c = breaches_first
