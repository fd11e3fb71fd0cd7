use Rattle.dsa_settings.proofs.Swept.{IsSweptTo}
use Rattle.dsa_settings.proofs.sweep.is_seen_fenced.Given as goal

-- the pieces since the latest fence are gathered, and those before it have no such pair
abbrev pub invariant-loop-at : goal.invariant-loop-at
invariant-loop-at g l =
    IsSweptTo g.P.Touching.reads g.P.Touching.writes (g.P.Touching.conflict l.pieces) l.pieces l.start l.group
    l.accesses.items l.at
