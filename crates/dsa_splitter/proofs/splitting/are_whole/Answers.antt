use Rattle.std.proofs.Common.{◌≡◌, ◌≤◌, length, inl, inr, refl, sym, ap, ◌∙◌, subst, arith}
use Rattle.std.specs.Prelude.{Some, slice_get}
use Rattle.std.proofs.lemmas.Bool.{cases_lt}
use Rattle.std.proofs.lemmas.Option.{same_Some, slice_get_read, slice_get_within}
use Rattle.dsa_descriptor.specs.declared.descriptor.Descriptor.{Descriptor}
use Rattle.dsa_splitter.proofs.splitting.are_whole.Goals as goal

pub loop-d-preserved : goal.loop-d-preserved
loop-d-preserved c = λ i d lt at.
    elim (cases_lt i c.loop-d.d-index) [
      | inl less ↦ c.loop-d.invariant i d less at
      | inr most ↦
          let e : i ≡ c.loop-d.d-index = omega arith in
          let here : slice_get c.args.list.now c.loop-d.d-index ≡ Some c.d-item.result = slice_get_read c.args.list.now (length c.args.list.now) c.loop-d.d-index c.d-item.result refl (omega (arith, c.loop-d-test.true)) c.d-item.is in
          let same : c.d-item.result ≡ d = same_Some c.d-item.result d (sym here ∙ ap (slice_get c.args.list.now) (sym e) ∙ at) in
          subst (λ (x : Descriptor). x.size ≤ c.args.greatest) same (c.is_one_piece.ensures.0 c.if-not-is_one_piece.false)
    ]

pub returns : goal.returns
returns c = λ _ i d at. c.loop-d.invariant i d (omega (arith, slice_get_within c.args.list.now i d at, c.loop-d-test.false)) at
