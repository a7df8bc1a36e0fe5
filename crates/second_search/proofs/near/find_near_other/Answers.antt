use Rattle.std.proofs.Common.{arith, rules}
use Rattle.second_search.proofs.near.find_near_other.Goals as goal

pub find_near-requires : goal.find_near-requires
find_near-requires g c =
    let tall = c.requires.tall in
    let wide = c.requires.wide in
    record { is_scene = search rules; tall = omega arith; wide = omega arith }
