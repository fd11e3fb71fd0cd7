use Rattle.dsa_resume.proofs.Found.{first_passed, none_passed}
use Rattle.dsa_resume.proofs.barriers.first_passed.Goals as goal

pub returns-in-Some : goal.returns-in-Some
returns-in-Some c =
    let (from, begun, least) = c.in-Some.ensures in
    first_passed c.args.barriers.now c.args.ends.now c.args.front.unfinished c.requires.unfinished c.args.front.end c.requires.front c.in-Some.index from begun least

pub returns-in-None : goal.returns-in-None
returns-in-None c = none_passed c.args.barriers.now c.args.ends.now c.args.front.unfinished c.requires.unfinished c.args.front.end c.requires.front c.in-None.ensures
