use Rattle.std.proofs.Common.{◌++◌, [], ◌∷◌, Bool, false, List, replicate, ap, ◌∙◌, append_assoc}
use Rattle.std.proofs.lemmas.List.{replicate_more}
use Rattle.dsa_splitter.proofs.marking.push_marks.Goals as goal

pub loop-turn-preserved : goal.loop-turn-preserved
loop-turn-preserved c =
    c.in_ok-push-2.ensures.items
    ∙ ap (λ (ms : List Bool). ms ++ (false ∷ [])) c.loop-turn.invariant
    ∙ append_assoc c.args.found.now.items (c.args.mark ∷ replicate c.loop-turn._turn false) (false ∷ [])
    ∙ ap (λ (ms : List Bool). c.args.found.now.items ++ (c.args.mark ∷ ms)) (replicate_more c.loop-turn._turn false)
