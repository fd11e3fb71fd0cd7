use Rattle.std.proofs.Common.{ℕ, ◌≡◌, ◌+◌, ◌<◌, ◌≤◌, ◌++◌, inl, inr, Bool, true, false, cond, List, [], length, sym, ap, subst, ◌∙◌, arith}
use Rattle.std.specs.Prelude.{slice_index_or, ◌⊎◌}
use Rattle.std.proofs.lemmas.Result.{err_from_is_err_and}
use Rattle.dsa_descriptor.specs.Places.{u32_at}
use Rattle.dsa_ranges.specs.Pieces.{Kind, kind_of}
use Rattle.dsa_emission.specs.declared.demands.Demands.{Demands}
use Rattle.dsa_emission.specs.declared.emission_fault.EmissionFault.{EmissionFault}
use Rattle.dsa_emission.specs.declared.emission_fault.EmissionFault.TheVariants.{Memory}
use Rattle.dsa_emission.specs.declared.place.Place.{Place}
use Rattle.dsa_settings.specs.Plan.{Plan}
use Rattle.dsa_emission.specs.EmissionFaults.{is_batch_entry, entry_size, place_before, after_entry, place_at_end, bytes_at, IsFirstGroupFault, IsFirstPortalFault, IsGroupRead, IsRead}
use Rattle.dsa_emission.proofs.Shapes.{place_before-next, sized_more, batched_more, placed_more}
use Rattle.dsa_emission.proofs.ReadBack.{read_more}
use Rattle.dsa_emission.proofs.reading.read_groups.Given.{Over}
use Rattle.dsa_emission.proofs.reading.read_groups.Goals as goal

-- the kind of the pieces
abbrev kind : (g : Over) → Kind g.row.P.Denot
kind g = kind_of g.P.Entry.spelling g.P.Entry.keeps g.P.Piece.size g.P.Touching.reads g.P.Touching.writes

pub read_group-requires-clause-few : goal.read_group-requires-clause-few
read_group-requires-clause-few g c =
    omega (arith, ap (λ (p : Place). p.start) c.loop-number.invariant.placed, sized_more c.args.all.now c.loop-number.number c.loop-number-test.true, c.requires.few)

-- a batch has all its pieces in the staging area
inside : (b : Bool) (count before total size : ℕ) → before + cond b count 0 ≤ total → total ≤ size → b ≡ true → before + cond b count 1 ≤ size
inside true count before total size room le is = omega arith
inside false count before total size room le is = absurd cc

pub read_group-requires-clause-inside : goal.read_group-requires-clause-inside
read_group-requires-clause-inside g c =
    let es = c.args.all.now in
    let n = c.loop-number.number in
    let e = slice_index_or es n [] in
    λ is. subst (λ (p : Place). p.batched + entry_size e ≤ length c.args.staged.now) (sym c.loop-number.invariant.placed)
    (inside (is_batch_entry e) (u32_at 32 e) (place_before es n).batched (place_at_end es).batched (length c.args.staged.now) (batched_more es n c.loop-number-test.true) c.requires.inside is)

-- a fault of one group, after those that were read
group_fault : {P : Type 0} (kind : Kind P) (demands : Demands) (es staged : List (List ℕ)) (n : ℕ) (place : Place) (plan : Plan) (ps : List P) (fault : EmissionFault) → n < length es → place ≡ place_before es n → IsRead kind demands es staged n plan ps →
    ((fault ≡ Memory) ⊎ IsFirstGroupFault kind demands (bytes_at staged place (slice_index_or es n [])) n place.start (entry_size (slice_index_or es n [])) fault) →
    (fault ≡ Memory) ⊎ IsFirstPortalFault kind demands es staged fault
group_fault kind demands es staged n place plan ps fault lt e read (inl none) = inl none
group_fault kind demands es staged n place plan ps fault lt e read (inr here) = inr (record {
  number = n;
  inside = lt;
  before = read.sound;
  stands = subst (λ (p : Place). IsFirstGroupFault kind demands (bytes_at staged p (slice_index_or es n [])) n p.start (entry_size (slice_index_or es n [])) fault) e here;
})

pub returns-in_err-group-clause-err : goal.returns-in_err-group-clause-err
returns-in_err-group-clause-err g c =
    let p = err_from_is_err_and c.from_residual-in_err-group.result c.from_residual-in_err-group.ensures.1 in
    rw (p.1, p.2) (group_fault (kind g) c.args.demands.now c.args.all.now c.args.staged.now c.loop-number.number c.loop-number.place c.loop-number.groups.items c.loop-number.pieces.items c.in_err-group.field-0.0
    c.loop-number-test.true c.loop-number.invariant.placed c.loop-number.invariant.read c.in_err-group.ensures.err)

batch_two : (e : List ℕ) → 0 < entry_size e → is_batch_entry e ≡ true → 1 ≤ u32_at 32 e
batch_two e some is = subst (λ (b : Bool). 0 < cond b (u32_at 32 e) 1) is some

pub loop-number-preserved : goal.loop-number-preserved
loop-number-preserved g c =
    let es = c.args.all.now in
    let n = c.loop-number.number in
    let e = slice_index_or es n [] in
    let more = placed_more c.loop-number.place c.after_entry-place.result e c.after_entry-place.ensures (batch_two e (c.requires.sized n c.loop-number-test.true)) c.loop-number.invariant.batches c.loop-number.invariant.batched in
    let (new, added, here) = c.in_ok-group.ensures.ok in
    record {
      placed = c.after_entry-place.ensures ∙ ap (λ (p : Place). after_entry p e) c.loop-number.invariant.placed ∙ sym (place_before-next es n c.loop-number-test.true);
      batched = more.0;
      batches = more.1;
      read = subst (λ (ps : List g.row.P.Denot). IsRead (kind g) c.args.demands.now es c.args.staged.now (n + 1) c.push.new.self.items ps) (sym added)
          (subst (λ (plan : Plan). IsRead (kind g) c.args.demands.now es c.args.staged.now (n + 1) plan (c.loop-number.pieces.items ++ new)) (sym c.in_ok-push.ensures.items)
          (read_more g.row.P.Denot (kind g) c.args.demands.now es c.args.staged.now n c.loop-number.groups.items c.loop-number.pieces.items c.in_ok-group.group new c.loop-number-test.true c.loop-number.invariant.read
          (subst (λ (p : Place). IsGroupRead (kind g) c.args.demands.now (bytes_at c.args.staged.now p e) (entry_size e) c.in_ok-group.group new) c.loop-number.invariant.placed here)));
    }
