use Rattle.std.proofs.Common.{List, map, sym, ap, ◌∙◌, subst}
use Rattle.dsa_descriptor.specs.declared.descriptor.Descriptor.{Descriptor}
use Rattle.dsa_descriptor.specs.Descriptors.{fields}
use Rattle.dsa_image.specs.Effects.{fold_done, statuses}
use Rattle.dsa_splitter.specs.Rules.{AreWhole, IsSplit}
use Rattle.dsa_splitter.proofs.Marks.{whole_marks}
use Rattle.dsa_splitter.proofs.OnePiece.{whole_pieces}
use Rattle.dsa_splitter.proofs.PiecesWhole.{all_pieces_whole, all_pieces_statuses}
use Rattle.dsa_splitter.proofs.Wholes.{list_can_split}
use Rattle.dsa_splitter.proofs.splitting.into_pieces.Goals as goal

pub returns-then-is_split-clause-found : goal.returns-then-is_split-clause-found
returns-then-is_split-clause-found c =
    let s = c.args.settings.now in
    let ds : List Descriptor = c.args.list.descriptors.items in
    let whole : AreWhole ds s.greatest_transfer = subst (λ (xs : List Descriptor). AreWhole xs s.greatest_transfer) c.deref.ensures.value (c.is_split.ensures.whole c.if-is_split.true) in
    let split = subst (λ (xs : List Descriptor). IsSplit s.greatest_transfer s.staging (map fields xs)) c.deref.ensures.value (c.is_split.ensures.split c.if-is_split.true) in
    (split, whole_pieces ds s.greatest_transfer whole)

pub returns-then-is_split-clause-barriers : goal.returns-then-is_split-clause-barriers
returns-then-is_split-clause-barriers c =
    let s = c.args.settings.now in
    let ds : List Descriptor = c.args.list.descriptors.items in
    let whole : AreWhole ds s.greatest_transfer = subst (λ (xs : List Descriptor). AreWhole xs s.greatest_transfer) c.deref.ensures.value (c.is_split.ensures.whole c.if-is_split.true) in
    sym (whole_marks ds s.greatest_transfer c.args.list.barriers.items whole c.args.list.marked)

pub returns-then-is_split-clause-memory : goal.returns-then-is_split-clause-memory
returns-then-is_split-clause-memory c = λ m.
    let s = c.args.settings.now in
    let ds : List Descriptor = c.args.list.descriptors.items in
    let whole : AreWhole ds s.greatest_transfer = subst (λ (xs : List Descriptor). AreWhole xs s.greatest_transfer) c.deref.ensures.value (c.is_split.ensures.whole c.if-is_split.true) in
    let split = subst (λ (xs : List Descriptor). IsSplit s.greatest_transfer s.staging (map fields xs)) c.deref.ensures.value (c.is_split.ensures.split c.if-is_split.true) in
    let limits = c.greatest_transfer.ensures.limits in
    ap (λ ps. fold_done ps m) (whole_pieces ds s.greatest_transfer whole)
    ∙ all_pieces_whole (map fields ds) s.greatest_transfer m (list_can_split ds s.greatest_transfer split.few.may_split limits.least_transfer limits.transfer_by_eights)

pub returns-then-is_split-clause-statuses : goal.returns-then-is_split-clause-statuses
returns-then-is_split-clause-statuses c = λ m.
    let s = c.args.settings.now in
    let ds : List Descriptor = c.args.list.descriptors.items in
    let whole : AreWhole ds s.greatest_transfer = subst (λ (xs : List Descriptor). AreWhole xs s.greatest_transfer) c.deref.ensures.value (c.is_split.ensures.whole c.if-is_split.true) in
    let split = subst (λ (xs : List Descriptor). IsSplit s.greatest_transfer s.staging (map fields xs)) c.deref.ensures.value (c.is_split.ensures.split c.if-is_split.true) in
    let limits = c.greatest_transfer.ensures.limits in
    ap (λ ps. statuses ps m) (whole_pieces ds s.greatest_transfer whole)
    ∙ all_pieces_statuses (map fields ds) s.greatest_transfer m (list_can_split ds s.greatest_transfer split.few.may_split limits.least_transfer limits.transfer_by_eights)
