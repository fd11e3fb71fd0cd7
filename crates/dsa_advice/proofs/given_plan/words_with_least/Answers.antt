use Rattle.std.proofs.Common.{◌≡◌, ◌++◌, ◌∙◌, ap}
use Rattle.std.specs.Prelude.{string_bytes}
use Rattle.dsa_advice.specs.Explained.{least_words}
use Rattle.dsa_advice.proofs.given_plan.words_with_least.Goals as goal

pub returns : goal.returns
returns c =
    let words = string_bytes c.in_ok-text.text in
    let told : string_bytes c.push_str.new.self ≡ words ++ least_words c.args.cost c.args.subject.now.least =
    cc (c.in_ok-push_str.ensures.bytes, c.deref.ensures, c.in_ok-least_text.ensures) in
    record {
      done = c.done.ensures.status;
      words = words;
      tells = c.in_ok-text.ensures;
      text_is = ap string_bytes c.done.ensures.text ∙ told;
    }
