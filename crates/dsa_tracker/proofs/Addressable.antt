-- Data of checksums that does not go past 2^64.
use Rattle.std.proofs.Common.{zero, suc, List, [], ◌∷◌, ◌++◌, subst}
use Rattle.std.specs.List.{AllByRecursion}
use Rattle.std.proofs.lemmas.Option.{same_Some}
use Rattle.dsa_descriptor.specs.declared.span.Span.{Span}
use Rattle.dsa_descriptor.specs.Spans.{IsAddressable}
use Rattle.dsa_tracker.specs.Calls.{AreAddressable}

are_addressable : (xs : List Span) → AllByRecursion IsAddressable xs → AreAddressable xs
are_addressable [] all k s e = cc
are_addressable (x ∷ xs) all zero s e = subst IsAddressable (same_Some x s e) all.0
are_addressable (x ∷ xs) all (suc k) s e = are_addressable xs all.1 k s e

in_front : (xs ys : List Span) → AllByRecursion IsAddressable (xs ++ ys) → AllByRecursion IsAddressable xs
in_front [] ys all = tt
in_front (x ∷ xs) ys all = (all.0, in_front xs ys all.1)

in_rest : (xs ys : List Span) → AllByRecursion IsAddressable (xs ++ ys) → AllByRecursion IsAddressable ys
in_rest [] ys all = all
in_rest (x ∷ xs) ys all = in_rest xs ys all.1

pub addressable_front : (xs ys : List Span) → AllByRecursion IsAddressable (xs ++ ys) → AreAddressable xs
addressable_front xs ys all = are_addressable xs (in_front xs ys all)

pub addressable_rest : (xs ys : List Span) → AllByRecursion IsAddressable (xs ++ ys) → AreAddressable ys
addressable_rest xs ys all = are_addressable ys (in_rest xs ys all)
