use Rattle.std.proofs.Common.{◌≡◌, ◌++◌, ◌∷◌, [], Some, None, rules, arith, map, ap, ◌∙◌, string_bytes}
use Rattle.std.proofs.lemmas.List.{map-append}
use Rattle.std.proofs.lemmas.Result.{IfOk-at_ok}
use Rattle.std.proofs.lemmas.Str.Pattern.{split_parts}
use Rattle.std.proofs.lemmas.Map.Text.{btree_set_updates_text}
use Rattle.std.specs.BTreeSet.{contains_text}
use Rattle.dsa_recording.proofs.Accepting.{HasNoNewline, key_added, key_last, line_added, line_last}
use Rattle.dsa_recording.proofs.accepted.Accepted.read.Goals as goal

pub loop-line-preserved : goal.loop-line-preserved
loop-line-preserved c =
    let line_is = IfOk-at_ok (λ s. string_bytes s ≡ c.in-Some.line.now) c.in_ok-from_str.was c.from_str.ensures.ok in
    let same_is = IfOk-at_ok (λ s. string_bytes s ≡ c.in-Some.line.now) c.in_ok-from_str-2.was c.from_str-in-Some.ensures.ok in
    let parts : (c.loop-line.rest.now ≡ c.in-Some.line.now ++ (10 ∷ c.in-Some.after.now)) × HasNoNewline c.in-Some.line.now =
    split_parts 10 c.loop-line.rest.now (Some (c.in-Some.line, c.in-Some.after)) c.in-Some.ensures.cases (omega arith) in (
      search rules,
      (λ q.
          let sets = btree_set_updates_text (string_bytes c.in_ok-from_str.field-0) c.loop-line.keys c.insert.new.self _ c.in_ok-insert.ensures.updates q in
          key_added c.args.text.now c.loop-line.rest.now c.in-Some.line.now c.in-Some.after.now q
          (contains_text c.loop-line.keys q) (contains_text c.insert.new.self q) parts.0 parts.1 (rw line_is at sets) (c.loop-line.invariant.1 q)),
      line_added c.args.text.now c.loop-line.rest.now c.in-Some.line.now c.in-Some.after.now (map (λ line. string_bytes line) c.loop-line.lines.items)
          (map (λ line. string_bytes line) c.push.new.self.items) parts.0 parts.1
          (ap (map (λ line. string_bytes line)) c.in_ok-push.ensures.items
          ∙ (map-append (λ line. string_bytes line) c.loop-line.lines.items (c.in_ok-from_str-2.field-0 ∷ [])
          ∙ ap (λ w. map (λ line. string_bytes line) c.loop-line.lines.items ++ (w ∷ [])) same_is)) c.loop-line.invariant.2,
    )

pub returns-clause-keys : goal.returns-clause-keys
returns-clause-keys c =
    let line_is = IfOk-at_ok (λ s. string_bytes s ≡ c.loop-line.rest.now) c.in_ok-from_str-3.was c.from_str-2.ensures.ok in
    let whole : HasNoNewline c.loop-line.rest.now = split_parts 10 c.loop-line.rest.now None c.in_default.ensures.cases (omega arith) in
    λ q.
    let sets = btree_set_updates_text (string_bytes c.in_ok-from_str-3.field-0) c.loop-line.keys c.insert-2.new.self _ c.in_ok-insert-2.ensures.updates q in
    key_last c.args.text.now c.loop-line.rest.now q
    (contains_text c.loop-line.keys q) (contains_text c.insert-2.new.self q) whole (rw line_is at sets) (c.loop-line.invariant.1 q)

pub returns-clause-lines : goal.returns-clause-lines
returns-clause-lines c =
    let line_is = IfOk-at_ok (λ s. string_bytes s ≡ c.loop-line.rest.now) c.in_ok-from_str-4.was c.from_str-3.ensures.ok in
    let whole : HasNoNewline c.loop-line.rest.now = split_parts 10 c.loop-line.rest.now None c.in_default.ensures.cases (omega arith) in
    line_last c.args.text.now c.loop-line.rest.now (map (λ line. string_bytes line) c.loop-line.lines.items) (map (λ line. string_bytes line) c.push-2.new.self.items) whole
    (ap (map (λ line. string_bytes line)) c.in_ok-push-2.ensures.items
    ∙ (map-append (λ line. string_bytes line) c.loop-line.lines.items (c.in_ok-from_str-4.field-0 ∷ [])
    ∙ ap (λ w. map (λ line. string_bytes line) c.loop-line.lines.items ++ (w ∷ [])) line_is)) c.loop-line.invariant.2
