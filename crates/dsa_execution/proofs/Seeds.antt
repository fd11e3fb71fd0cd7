-- A chain of checksums makes the value of one over all the bytes.
use Rattle.std.proofs.Common.{ℕ, ◌+◌, List, [], ◌∷◌, inl, refl, ap, ◌∙◌}
use Rattle.std.specs.List.{All}
use Rattle.std.proofs.lemmas.List.Elements.{All-head, All-tail}
use Rattle.dsa_checksum.specs.declared.variant.Variant.{Variant}
use Rattle.dsa_checksum.specs.Checksum.{checksum}
use Rattle.dsa_descriptor.specs.Data.{record_span}
use Rattle.dsa_image.specs.Memory.{HoldsSpan, Memory, bytes_from}
use Rattle.dsa_image.proofs.Executed.{Holds-same}
use Rattle.dsa_operations.specs.Checksums.{variant_of}
use Rattle.dsa_operations.specs.Fields.{ChecksumFields}
use Rattle.dsa_operations.specs.Operands.{source_field}
use Rattle.dsa_core.specs.Checksums.{begun_value, checksum_done, checksum_value, seed_value}
use Rattle.dsa_execution.specs.Seeds.{ChainsGoOn, total_size}
use Rattle.dsa_execution.proofs.Left.{done_addresses, others_are_left, value_read}
use Rattle.dsa_core.proofs.Sources.{bytes_from_join, bytes_from_same}
use Rattle.dsa_core.proofs.Values.{goes_on_from}

-- the memory has the record
abbrev HasRecord : Memory → ChecksumFields → Type 0
HasRecord m f = HoldsSpan m (record_span f.record_at)

-- it has the records of the others afterwards, too
still_held : (f : ChecksumFields) (m : Memory) (gs : List ChecksumFields) → All (HasRecord m) gs → All (HasRecord (checksum_done f m)) gs
still_held f m gs held = λ k d lt a inside. Holds-same m (checksum_done f m) a (done_addresses f m) (held k d lt a inside)

pub chains_go_on : ChainsGoOn
chains_go_on f [] m chain held = refl
chains_go_on f (g ∷ gs) m chain held =
    let (next, apart, rest) = chain in
    let n : Memory = checksum_done f m in
    let v : Variant = variant_of f in
    let total : ℕ = total_size g gs in
    ◌∙◌ (chains_go_on g gs n rest (still_held f m (g ∷ gs) (All-tail (HasRecord m) f (g ∷ gs) held)))
    (ap (λ w. checksum w (begun_value g n) (bytes_from n (source_field g.op) total)) next.variant
    ∙ ap (λ value. checksum v value (bytes_from n (source_field g.op) total))
    (ap (λ seed. seed_value seed n) next.seed ∙ value_read f m (All-head (HasRecord m) f (g ∷ gs) held))
    ∙ ap (checksum v (checksum_value f m))
    (bytes_from_same n m (source_field g.op) total (λ a low high. others_are_left f m a (λ there. apart a there (inl (low, high)))))
    ∙ ap (λ at. checksum v (checksum_value f m) (bytes_from m at total)) next.source
    ∙ goes_on_from v (begun_value f m) (bytes_from m (source_field f.op) f.size) (bytes_from m (source_field f.op + f.size) total)
    ∙ ap (checksum v (begun_value f m)) (bytes_from_join m (source_field f.op) f.size total (f.size + total) refl))
