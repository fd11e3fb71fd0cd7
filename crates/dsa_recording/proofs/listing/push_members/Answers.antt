use Rattle.std.proofs.Common.{◌≡◌, ℕ, ◌+◌, ◌<◌, List, [], ◌∷◌, ◌++◌, length, get_or, take, refl, sym, ap, ◌∙◌, add-one, append_assoc}
use Rattle.std.specs.Prelude.{string_bytes, slice_index_or}
use Rattle.std.proofs.lemmas.List.{append-nil}
use Rattle.dsa_audit.specs.declared.member.Member.{Member}
use Rattle.dsa_audit.specs.declared.needless.FenceUse.{FenceUse}
use Rattle.dsa_audit.specs.declared.needless.FenceUse.TheVariants.{NoFence}
use Rattle.dsa_recording.specs.Listings.{fence_line, member_line, member_lines}
use Rattle.dsa_recording.proofs.ListingLines.{lines_more}
use Rattle.dsa_recording.proofs.listing.push_members.Goals as goal

none : (es : List (List ℕ)) (first : ℕ) (uses : List FenceUse) → member_lines es first [] uses ≡ []
unfolding member_lines
none es first uses = refl

more : (es : List (List ℕ)) (first : ℕ) (ms : List Member) (uses : List FenceUse) (k : ℕ) (m : Member) (fence : FenceUse) (front old fenced line next last : List ℕ) → k < length ms
    → old ≡ front ++ member_lines es first (take k ms) uses → fence ≡ get_or uses k NoFence → fenced ≡ old ++ fence_line (first + k) fence
    → line ≡ member_line (length es) (first + k) (slice_index_or es (first + k) []) (get_or ms k m) → next ≡ fenced ++ line → last ≡ next ++ 10 ∷ []
    → last ≡ front ++ member_lines es first (take (k + 1) ms) uses
more es first ms uses k m fence front old fenced line next last lt so_far used barrier here one two =
    let before : List ℕ = member_lines es first (take k ms) uses in
    two ∙ ap (λ (t : List ℕ). t ++ 10 ∷ []) (one ∙ ap (λ (t : List ℕ). t ++ line) barrier)
    ∙ append_assoc (old ++ fence_line (first + k) fence) line (10 ∷ [])
    ∙ append_assoc old (fence_line (first + k) fence) (line ++ 10 ∷ [])
    ∙ ap (λ (t : List ℕ). t ++ (fence_line (first + k) fence ++ (line ++ 10 ∷ []))) so_far
    ∙ append_assoc front before (fence_line (first + k) fence ++ (line ++ 10 ∷ []))
    ∙ (λ i. front ++ (before ++ (fence_line (first + k) (used i) ++ (here i ++ 10 ∷ []))))
    ∙ ap (λ (t : List ℕ). front ++ t) (sym (lines_more es first ms uses k m lt))
    ∙ ap (λ (n : ℕ). front ++ member_lines es first (take n ms) uses) (sym (add-one k))

pub loop-member-init : goal.loop-member-init
loop-member-init c =
    sym (append-nil (string_bytes c.args.text.now))
    ∙ ap (λ (t : List ℕ). string_bytes c.args.text.now ++ t) (sym (none c.args.all.now c.args.first c.args.uses.now))

pub loop-member-preserved : goal.loop-member-preserved
loop-member-preserved c =
    let k : ℕ = c.loop-member.member in
    let m : Member = c.index-members-member.result in
    let here : string_bytes c.in_ok-line.line ≡ member_line (length c.args.all.now) (c.args.first + k) (slice_index_or c.args.all.now (c.args.first + k) []) (get_or c.args.members.now k m) =
    c.in_ok-line.ensures ∙ ap (member_line (length c.args.all.now) (c.args.first + k) (slice_index_or c.args.all.now (c.args.first + k) [])) c.index-members-member.is in
    more c.args.all.now c.args.first c.args.members.now c.args.uses.now k m c.use_at.result (string_bytes c.args.text.now) (string_bytes c.loop-member.text) (string_bytes c.push_fence.new.text) c.deref.result.now
    (string_bytes c.push_str.new.self) (string_bytes c.push_str-in-loop-member.new.self)
    c.loop-member-test.true c.loop-member.invariant c.use_at.ensures c.in_ok-push_fence.ensures (c.deref.ensures ∙ here) c.in_ok-push_str.ensures.bytes c.in_ok-push_str-2.ensures.bytes
