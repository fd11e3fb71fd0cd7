use Rattle.std.proofs.Common.{ℕ, map, subst}
use Rattle.dsa_descriptor.specs.Descriptors.{fields}
use Rattle.dsa_splitter.specs.Rules.{AreWhole, IsSplit}
use Rattle.dsa_splitter.proofs.plain.is_split.Goals as goal

pub returns-clause-whole : goal.returns-clause-whole
returns-clause-whole c = λ yes'. subst (λ (g : ℕ). AreWhole c.args.list.now g) c.greatest_transfer.ensures.value (c.are_own_pieces.ensures.whole yes')

pub returns-clause-split : goal.returns-clause-split
returns-clause-split c = λ yes'.
    subst (λ (g : ℕ). IsSplit g c.args.settings.now.staging (map fields c.args.list.now)) c.greatest_transfer.ensures.value
    (subst (λ (at : ℕ). IsSplit c.greatest_transfer.result at (map fields c.args.list.now)) c.staging.ensures.value (c.are_own_pieces.ensures.split yes'))
