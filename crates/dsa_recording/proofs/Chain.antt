-- Submissions one after the other.
use Rattle.std.proofs.Common.{◌≡◌, ℕ, ◌<◌, ◌≤◌, List, [], ◌∷◌, ◌++◌, length, refl, sym, ap, subst, ◌∙◌, arith}
use Rattle.dsa_recording.specs.declared.stream.Submission.{Submission}
use Rattle.dsa_recording.specs.Streams.{submission_at, end_of, ReadsUpTo}

read_more : (es : List (List ℕ)) (from to : ℕ) (ss : List Submission) (s : Submission) → ReadsUpTo es from ss to → to < length es → s ≡ submission_at es to
    → end_of s ≤ length es → ReadsUpTo es from (ss ++ s ∷ []) (end_of s)
read_more es from to [] s r lt is le = (omega (arith, r, lt), is ∙ ap (submission_at es) (sym r), le, refl)
read_more es from to (t ∷ ss) s (a, e, b, rest) lt is le = (a, e, b, read_more es (end_of t) to ss s rest lt is le)

pub read_pushed : (es : List (List ℕ)) (to : ℕ) (ss more : List Submission) (s : Submission) → ReadsUpTo es 0 ss to → to < length es → s ≡ submission_at es to
    → end_of s ≤ length es → more ≡ ss ++ s ∷ [] → ReadsUpTo es 0 more (end_of s)
read_pushed es to ss more s r lt is le e = subst (λ (z : List Submission). ReadsUpTo es 0 z (end_of s)) (sym e) (read_more es 0 to ss s r lt is le)

-- a complete submission is not cut off
not_cut : (es : List (List ℕ)) (x y : ℕ) (s : Submission) → s ≡ submission_at es x → end_of s ≤ length es → x ≡ y
    → length es < end_of (submission_at es y) → ⊥
not_cut es x y s is le same cut =
    let e : end_of s ≡ end_of (submission_at es y) = ap end_of (is ∙ ap (submission_at es) same) in
    absurd (omega (arith, e, le, cut))

same_first : (es : List (List ℕ)) (from to : ℕ) (s t : Submission) (ts : List Submission) → s ≡ submission_at es from → t ≡ submission_at es from
    → ReadsUpTo es (end_of t) ts to → ReadsUpTo es (end_of s) ts to
same_first es from to s t ts a b r = subst (λ (x : Submission). ReadsUpTo es (end_of x) ts to) (b ∙ sym a) r

pub one_reading : (es : List (List ℕ)) (from : ℕ) (ss ts : List Submission) → ReadsUpTo es from ss (length es) → ReadsUpTo es from ts (length es) → ss ≡ ts
one_reading es from [] [] r q = refl
one_reading es from [] (t ∷ ts) r q = absurd (omega (arith, r, q.0))
one_reading es from (s ∷ ss) [] r q = absurd (omega (arith, r.0, q))
one_reading es from (s ∷ ss) (t ∷ ts) r q =
    let same : s ≡ t = r.1 ∙ sym q.1 in
    let rest : ss ≡ ts = one_reading es (end_of s) ss ts r.3 (same_first es from (length es) s t ts r.1 q.1 q.3) in
    cc

-- what is read to its end is not cut off
pub whole_not_cut : (es : List (List ℕ)) (from at : ℕ) (ss ts : List Submission) → ReadsUpTo es from ss (length es) → ReadsUpTo es from ts at
    → at < length es → length es < end_of (submission_at es at) → ⊥
whole_not_cut es from at [] [] r q lt cut = absurd (omega (arith, r, q, lt))
whole_not_cut es from at [] (t ∷ ts) r q lt cut = absurd (omega (arith, r, q.0))
whole_not_cut es from at (s ∷ ss) [] r q lt cut = not_cut es from at s r.1 r.2 q cut
whole_not_cut es from at (s ∷ ss) (t ∷ ts) r q lt cut =
    whole_not_cut es (end_of s) at ss ts r.3 (same_first es from at s t ts r.1 q.1 q.3) lt cut

-- one submission is cut off at most
pub one_cut : (es : List (List ℕ)) (from at other : ℕ) (ss ts : List Submission) → ReadsUpTo es from ss at → ReadsUpTo es from ts other
    → length es < end_of (submission_at es at) → length es < end_of (submission_at es other) → at ≡ other
one_cut es from at other [] [] r q cut cut' = sym r ∙ q
one_cut es from at other [] (t ∷ ts) r q cut cut' = absurd (not_cut es from at t q.1 q.2 r cut)
one_cut es from at other (s ∷ ss) [] r q cut cut' = absurd (not_cut es from other s r.1 r.2 q cut')
one_cut es from at other (s ∷ ss) (t ∷ ts) r q cut cut' =
    one_cut es (end_of s) at other ss ts r.3 (same_first es from other s t ts r.1 q.1 q.3) cut cut'
