use Rattle.std.proofs.Common.{ℕ, ◌≡◌, ◌+◌, ◌++◌, inr, false, List, [], ◌∷◌, refl, sym, ap, subst, ◌∙◌, append_assoc, arith}
use Rattle.std.proofs.lemmas.List.{append-nil}
use Rattle.dsa_ranges.specs.Pieces.{Kind, kind_of}
use Rattle.dsa_settings.specs.Plan.{Group}
use Rattle.dsa_emission.specs.EmissionFaults.{entry_size, bytes_at, Spells, IsFirstEntryFault, IsGroupRead}
use Rattle.dsa_descriptor.specs.Fences.{is_fenced}
use Rattle.dsa_emission.proofs.ReadBack.{group_none, group_more, sound_pieces}
use Rattle.dsa_emission.proofs.reading.read_group.Given.{Over}
use Rattle.dsa_emission.proofs.reading.read_group.Goals as goal

-- the kind of the pieces
abbrev kind : (g : Over) → Kind g.row.P.Denot
kind g = kind_of g.P.Entry.spelling g.P.Entry.keeps g.P.Piece.size g.P.Touching.reads g.P.Touching.writes

pub loop-k-init : goal.loop-k-init
loop-k-init g c =
    let first : is_fenced (bytes_at c.args.staged.now c.args.place c.args.entry.now 0) ≡ false = ap is_fenced (sym c.piece_bytes.ensures) ∙ sym c.is_fenced.ensures ∙ c.if-is_fenced.false in (
      [],
      sym (append-nil c.args.pieces.now.items),
      subst (λ (fences : Group). IsGroupRead (kind g) c.args.demands.now (bytes_at c.args.staged.now c.args.place c.args.entry.now) 0 fences []) (sym c.in_ok-fences.ensures.items)
          (group_none g.row.P.Denot (kind g) c.args.demands.now (bytes_at c.args.staged.now c.args.place c.args.entry.now) first),
    )

pub returns-in-Err-clause-err : goal.returns-in-Err-clause-err
returns-in-Err-clause-err g c =
    let bytes = bytes_at c.args.staged.now c.args.place c.args.entry.now in
    let (ps, added, read) = c.loop-k.invariant in
    inr (
      c.loop-k.k,
      refl,
      omega (arith, c.loop-k-test.true, c.entry_size-size.ensures.size),
      record {
        before = sound_pieces g.row.P.Denot (kind g) c.args.demands.now bytes c.loop-k.k c.loop-k.fences.items ps read;
        first_unfenced = λ none. subst (λ (z : ℕ). is_fenced (bytes z) ≡ false) (sym none) read.first_unfenced;
        stands = subst (λ (b : List ℕ). IsFirstEntryFault (kind g) c.args.demands.now b c.in-Err.fault) c.piece_bytes-bytes.ensures c.in-Err.ensures.fault;
      },
    )

pub loop-k-preserved : goal.loop-k-preserved
loop-k-preserved g c =
    let bytes = bytes_at c.args.staged.now c.args.place c.args.entry.now in
    let (ps, added, read) = c.loop-k.invariant in
    let found = c.in-Ok.ensures.found in
    let spelt : Spells (kind g) (bytes c.loop-k.k) c.in-Ok.piece = subst (λ (b : List ℕ). Spells (kind g) b c.in-Ok.piece) c.piece_bytes-bytes.ensures found.0 in
    let flag = c.is_fenced-in-loop-k.ensures ∙ ap is_fenced c.piece_bytes-bytes.ensures in (
      ps ++ c.in-Ok.piece ∷ [],
      c.in_ok-push-2.ensures.items ∙ ap (λ (xs : List g.row.P.Denot). xs ++ c.in-Ok.piece ∷ []) added ∙ append_assoc c.args.pieces.now.items ps (c.in-Ok.piece ∷ []),
      subst (λ (fences : Group). IsGroupRead (kind g) c.args.demands.now bytes (c.loop-k.k + 1) fences (ps ++ c.in-Ok.piece ∷ [])) (sym c.in_ok-push.ensures.items)
          (group_more g.row.P.Denot (kind g) c.args.demands.now bytes c.loop-k.k c.loop-k.fences.items ps c.is_fenced-in-loop-k.result c.in-Ok.piece read flag spelt found.1),
    )

pub returns-clause-ok : goal.returns-clause-ok
returns-clause-ok g c =
    let bytes = bytes_at c.args.staged.now c.args.place c.args.entry.now in
    let (ps, added, read) = c.loop-k.invariant in
    let all : c.loop-k.k ≡ entry_size c.args.entry.now = omega (arith, c.entry_size-size.ensures.size) in (
      ps,
      added,
      subst (λ (fences : Group). IsGroupRead (kind g) c.args.demands.now bytes (entry_size c.args.entry.now) fences ps) (sym c.new.ensures)
          (subst (λ (n : ℕ). IsGroupRead (kind g) c.args.demands.now bytes n c.loop-k.fences.items ps) all read),
    )
