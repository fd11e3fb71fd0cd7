-- The loops that make the entries of a plan's groups.
use Rattle.std.proofs.Common.{◌≡◌, ℕ, zero, suc, ◌+◌, ◌-◌, ◌*◌, ◌<◌, ◌≤◌, false, List, [], ◌∷◌, ◌++◌, length, take, drop, get_or, refl, sym, ap, ◌∙◌, add-one, arith}
use Rattle.std.specs.Prelude.{replicate, slice_index_or, if◌then◌else◌}
use Rattle.std.specs.Int.{w32, to_le_bytes}
use Rattle.std.specs.List.{flat_map}
use Rattle.std.proofs.lemmas.List.{drop_more, take_rest, take-append-le}
use Rattle.std.proofs.lemmas.List.Sums.{sum_by-take-le}
use Rattle.dsa_descriptor.specs.declared.span.Span.{Span}
use Rattle.dsa_descriptor.specs.Pieces.{most_pieces}
use Rattle.dsa_operations.specs.declared.operation.Operation.{Operation}
use Rattle.dsa_operations.specs.Operations.{spelling_of}
use Rattle.dsa_operations.proofs.Answered.{are_operations}
use Rattle.dsa_emission.specs.declared.place.Place.{Place}
use Rattle.dsa_emission.specs.Emission.{batched, batched_count, is_batch, place_of}
use Rattle.dsa_emission.proofs.Places.{batch_yes, batch_no, counts_within, place_of-next, group_read}
use Rattle.dsa_settings.specs.Plan.{Group, Plan, piece_count, start_of}
use Rattle.dsa_prepared.specs.declared.entry.Entry.{Entry}
use Rattle.dsa_prepared.specs.declared.word.Word.TheVariants.{InStaging, Fixed}
use Rattle.dsa_prepared.specs.Entries.{entry_of, fenced_entries}
use Rattle.dsa_prepared.specs.Templates.{gathered, group_entries, group_staged}

-- one part more
pub gathered_more : (part : ℕ → List Entry) (m : ℕ) (old new more : List Entry) → old ≡ gathered part m → new ≡ old ++ more → part m ≡ more → new ≡ gathered part (m + 1)
gathered_more part m old new more so_far added is = rw (add-one m) (added ∙ (λ i. so_far i ++ sym is i))

-- the entry of a batch, as the code makes it
abbrev pub batch_made : Operation → ℕ → ℕ → ℕ → Entry
batch_made first record_at list_at count =
    record {
      head = take 4 (spelling_of first) ++ to_le_bytes w32 0x0100000c;
      completion = InStaging record_at;
      first = InStaging list_at;
      second = Fixed 0;
      middle = to_le_bytes w32 count ++ replicate 4 0;
      own = Fixed 0;
    }

pub batch_group : (rs : List Span) (total : ℕ) (place : Place) (g : Group) (ps : List Operation) (p : Operation) (record_at list_at count : ℕ) → 1 < length g → 0 < length ps → p ≡ get_or ps 0 p →
    64 * total + 32 * place.batches ≡ record_at → 64 * place.batched ≡ list_at → length g ≡ count → group_entries rs total place g ps ≡ batch_made p record_at list_at count ∷ []
batch_group rs total place g [] p record_at list_at count more some is a b n = absurd (omega (arith, some))
batch_group rs total place g (x ∷ ps) p record_at list_at count more some is a b n =
    let first : take 4 (flat_map spelling_of (x ∷ ps)) ≡ take 4 (spelling_of p) =
    take-append-le 4 (spelling_of x) (flat_map spelling_of ps) (omega (arith, are_operations.whole x)) ∙ ap (λ (y : Operation). take 4 (spelling_of y)) (sym is) in
    rw (batch_yes g more, first, a, b, n) refl

pub lone_group : (rs : List Span) (total : ℕ) (place : Place) (g : Group) (ps : List Operation) (p : Operation) (start : ℕ) → length g ≡ 1 → place.start ≡ start → start < length ps → p ≡ get_or ps start p →
    group_entries rs total place g ps ≡ entry_of rs false p ∷ []
lone_group rs total place g ps p start one from within is =
    let rest : drop start ps ≡ get_or ps start p ∷ drop (start + 1) ps = drop_more ps start p within in
    rw (batch_no g (λ more. absurd (omega (arith, more, one))), one, from, rest, sym is) refl

-- the entries of one piece more
fenced_suc : (rs : List Span) (g : Group) (ps : List Operation) (k : ℕ) (d : Operation) → k < length g → k < length ps →
    fenced_entries rs (take (suc k) g) ps ≡ fenced_entries rs (take k g) ps ++ entry_of rs (get_or g k false) (get_or ps k d) ∷ []
fenced_suc rs [] ps k d lt within = absurd (omega (arith, lt))
fenced_suc rs (x ∷ g) [] k d lt within = absurd (omega (arith, within))
fenced_suc rs (x ∷ g) (p ∷ ps) zero d lt within = refl
fenced_suc rs (x ∷ g) (p ∷ ps) (suc k) d lt within =
    ap (λ (es : List Entry). entry_of rs x p ∷ es) (fenced_suc rs g ps k d (omega (arith, lt)) (omega (arith, within)))

pub fenced_more : (rs : List Span) (g : Group) (ps : List Operation) (k : ℕ) (p : Operation) → k < length g → k < length ps → p ≡ get_or ps k p →
    fenced_entries rs (take (k + 1) g) ps ≡ fenced_entries rs (take k g) ps ++ entry_of rs (get_or g k false) p ∷ []
fenced_more rs g ps k p lt within is =
    rw (add-one k) (fenced_suc rs g ps k p lt within
    ∙ ap (λ (o : Operation). fenced_entries rs (take k g) ps ++ entry_of rs (get_or g k false) o ∷ []) (sym is))

-- the pieces of a batch, as the code cuts them out
pub batch_cut : (rs : List Span) (start : ℕ) (g : Group) (ps : List Operation) →
    fenced_entries rs g (take (length ps - start) (drop start ps)) ≡ fenced_entries rs g (drop start ps)
batch_cut rs start g ps = ap (λ (es : List Operation). fenced_entries rs g es) (take_rest ps start)

-- what was added for the group that begins there
pub staged_here : (rs : List Span) (plan : Plan) (m : ℕ) (g : Group) (start : ℕ) (fs : List Operation) (old new : List Entry) → start ≡ start_of plan m →
    new ≡ old ++ (if is_batch g then fenced_entries rs g (drop start fs) else []) → new ≡ old ++ group_staged rs (place_of plan m) g fs
staged_here rs plan m g start fs old new is added = added ∙ ap (λ (n : ℕ). old ++ (if is_batch g then fenced_entries rs g (drop n fs) else [])) is

-- the pieces in batches are no more than are planned
pub total_few : (plan : Plan) (n total : ℕ) → piece_count plan ≡ n → n ≤ most_pieces → total ≡ batched_count plan → total ≤ most_pieces
total_few plan n total covers few is = let c = counts_within plan in omega (arith, c.1, covers, few, is)

-- what comes before a group and what the group adds are few
pub batched_next : (plan : Plan) (m : ℕ) (g : Group) → m < length plan → g ≡ get_or plan m g → batched_count (take (m + 1) plan) ≡ batched_count (take m plan) + batched g
batched_next plan m g lt is = ap (λ (p : Place). p.batched) (place_of-next plan m g lt is)

pub batched_few : (plan : Plan) (m : ℕ) (g : Group) → m < length plan → g ≡ get_or plan m g → piece_count plan ≤ most_pieces → batched_count (take m plan) + batched g ≤ most_pieces
batched_few plan m g lt is few =
    let c = counts_within (take (m + 1) plan) in
    let w = sum_by-take-le length plan (m + 1) in
    omega (arith, c.1, w, few, batched_next plan m g lt is)

-- the entries with that of one group more
pub portal_next : (rs : List Span) (plan : Plan) (fs : List Operation) (m : ℕ) (g : Group) (old new : List Entry) (e : Entry) → m < length plan → g ≡ get_or plan m g →
    old ≡ gathered (λ number. group_entries rs (batched_count plan) (place_of plan number) (slice_index_or plan number []) fs) m → new ≡ old ++ e ∷ [] →
    group_entries rs (batched_count plan) (place_of plan m) g fs ≡ e ∷ [] →
    new ≡ gathered (λ number. group_entries rs (batched_count plan) (place_of plan number) (slice_index_or plan number []) fs) (m + 1)
portal_next rs plan fs m g old new e lt is so_far added made =
    gathered_more (λ number. group_entries rs (batched_count plan) (place_of plan number) (slice_index_or plan number []) fs) m old new (e ∷ []) so_far added
    (ap (λ (h : Group). group_entries rs (batched_count plan) (place_of plan m) h fs) (sym (group_read plan m g lt is)) ∙ made)
