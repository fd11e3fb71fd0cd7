use Rattle.std.proofs.Common.{◌≡◌, ℕ, ◌+◌, ◌<◌, ◌≤◌, List, [], length, get_or, take, refl, ap, ◌∙◌, add-one, arith}
use Rattle.std.specs.Prelude.{slice_index_or}
use Rattle.dsa_audit.specs.declared.member.Member.{Member}
use Rattle.dsa_recording.specs.Listings.{member_operation, member_operations}
use Rattle.dsa_recording.proofs.ListingLines.{operations_more}
use Rattle.dsa_recording.proofs.listing.listed_of.Goals as goal

none : (es : List (List ℕ)) (first : ℕ) → 0 ≡ length (member_operations es first [])
unfolding member_operations
none es first = refl

pub loop-member-init : goal.loop-member-init
loop-member-init c = (none c.args.all.now c.args.first, omega arith)

more : (es : List (List ℕ)) (first : ℕ) (ms : List Member) (k : ℕ) (m : Member) (listed here : ℕ) → k < length ms
    → (listed ≡ length (member_operations es first (take k ms))) × (listed ≤ k)
    → here ≡ length (member_operation (length es) (first + k) (slice_index_or es (first + k) []) (get_or ms k m)) → here ≤ 1
    → (listed + here ≡ length (member_operations es first (take (k + 1) ms))) × (listed + here ≤ k + 1)
more es first ms k m listed here lt so_far one few =
    let next = operations_more es first ms k m lt in
    let place = ap (λ (n : ℕ). length (member_operations es first (take n ms))) (add-one k) in
    let sum = so_far.0 in
    let least = so_far.1 in
    (omega (arith, next, place, sum, one), omega (arith, least, few))

pub loop-member-preserved : goal.loop-member-preserved
loop-member-preserved c =
    let k : ℕ = c.loop-member.member in
    let here = c.listed_count-listed.ensures.value (c.args.first + k)
    ∙ ap (λ (m : Member). length (member_operation (length c.args.all.now) (c.args.first + k) (slice_index_or c.args.all.now (c.args.first + k) []) m)) c.index-members-member.is in
    more c.args.all.now c.args.first c.args.members.now k c.index-members-member.result c.loop-member.listed c.listed_count-listed.result
    c.loop-member-test.true c.loop-member.invariant here c.listed_count-listed.ensures.few
