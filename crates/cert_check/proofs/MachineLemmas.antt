-- What a line does to a walk: the branches that it leads to, before those that wait.
use Rattle.std.proofs.Common.{◌≡◌, List, ℕ, [], ◌∷◌, ◌++◌, Some, None, set, length, refl, sym, ap, ◌∙◌}
use Rattle.line_facts.specs.Masks.{Masks}
use Rattle.picture.specs.LineSet.{Lines}
use Rattle.picture.specs.Rows.{Rows, width_of}
use Rattle.cert_check.specs.declared.stage.Stage.TheVariants.{Free}
use Rattle.cert_check.specs.Machined.{IsRight, Machined, machined}
use Rattle.cert_check.specs.Boards.{IsTallied, boarded}
use Rattle.cert_text.specs.declared.cert_line.Literal.{Literal}
use Rattle.cert_check.specs.Stores.{ArePlaces, Stored}
use Rattle.cert_check.specs.Walk.{Walk, at_facts, next_at, walk_of, without}

-- one branch goes on
pub goes_on : (walk : Walk) (facts : Masks) → (walk.behind ≡ [] → walk.stage ≡ Free) → (walk.stage ≡ Free → walk.denied ≡ []) → Some (at_facts walk facts) ≡ next_at walk (facts ∷ walk.behind)
goes_on walk facts free none = go walk.behind refl
  where
    go : (behind : List (List (List ℕ))) → walk.behind ≡ behind → Some (walk_of facts behind walk.lemmas walk.denied walk.stage) ≡ next_at walk (facts ∷ behind)
    go [] e =
        let stage = free e in
        rw (stage, none stage) refl
    go (next ∷ others) e = refl

-- several branches begin
pub goes_over : (walk : Walk) (facts : Masks) (behind : List (List (List ℕ))) → (behind ≡ [] → walk.stage ≡ Free) → (walk.stage ≡ Free → walk.denied ≡ [])
    → Some (walk_of facts behind walk.lemmas walk.denied walk.stage) ≡ next_at walk (facts ∷ behind)
goes_over walk facts [] free none =
    let stage = free refl in
    rw (stage, none stage) refl
goes_over walk facts (next ∷ others) free none = refl

-- the next branch, whatever is at hand and waits now
pub same_next : (walk : Walk) (facts : Masks) (behind waits : List (List (List ℕ))) → next_at (walk_of facts behind walk.lemmas walk.denied walk.stage) waits ≡ next_at walk waits
same_next walk facts behind [] = refl
same_next walk facts behind (next ∷ []) = refl
same_next walk facts behind (next ∷ other ∷ others) = refl

-- the machine stays right where as many lemmas are being proved, and where facts still wait if some waited
pub still_right : (picture : Rows) (old : Machined) (walk : Walk) (at_hand : List (List ℕ)) (behind : List (List (List ℕ))) (strays : ℕ) (waits : List ℕ) (settled : Lines)
    (parts literals spare height width : ℕ) → IsRight picture old → walk ≡ old.walk → height ≡ old.height → width ≡ old.width → (behind ≡ [] → walk.behind ≡ []) → IsTallied picture (boarded at_hand behind strays waits settled parts)
    → IsRight picture (machined (walk_of at_hand behind walk.lemmas walk.denied walk.stage) strays waits settled parts literals spare height width)
still_right picture old walk at_hand behind strays waits settled parts literals spare height width right w h v some tallied = record {
  tallied = tallied;
  free = λ e. ap (λ (x : Walk). x.stage) w ∙ right.free (ap {B = List (List (List ℕ))} (λ (x : Walk). x.behind) (sym w) ∙ some e);
  none_denied = λ e. ap {B = List Literal} (λ (x : Walk). x.denied) w ∙ right.none_denied (ap (λ (x : Walk). x.stage) (sym w) ∙ e);
  height = h ∙ right.height;
  width = v ∙ right.width;
}

pub none_after : (front back : List (List (List ℕ))) → front ++ back ≡ [] → back ≡ []
none_after [] back e = e
none_after (facts ∷ front) back e = cc

-- a lemma is dropped where nothing waits
pub is_without : (walk : Walk) (n : ℕ) → walk.behind ≡ [] → walk.stage ≡ Free → walk.denied ≡ []
    → Some (walk_of walk.at_hand walk.behind (set walk.lemmas n None) walk.denied walk.stage) ≡ Some (without walk n)
is_without walk n b s d = rw (b, s, d) refl

pub right_without : (picture : Rows) (old : Machined) (walk : Walk) (store : Stored) (strays : ℕ) (waits : List ℕ) (settled : Lines) (parts literals spare height width : ℕ) → IsRight picture old → walk ≡ old.walk → height ≡ old.height
    → width ≡ old.width
    → strays ≡ old.strays → waits ≡ old.waits → settled ≡ old.settled → parts ≡ old.parts → store.denied ≡ walk.denied
    → IsRight picture (machined (walk_of walk.at_hand walk.behind store.lemmas store.denied walk.stage) strays waits settled parts literals spare height width)
right_without picture old walk store strays waits settled parts literals spare height width right w h v s q t p d = record {
  tallied = rw (w, s, q, t, p) right.tallied;
  free = rw w right.free;
  none_denied = λ e. d ∙ (ap {B = List Literal} (λ (x : Walk). x.denied) w ∙ right.none_denied (sym (ap (λ (x : Walk). x.stage) w) ∙ e));
  height = h ∙ right.height;
  width = v ∙ right.width;
}

-- the places of literals are those in the facts at hand
pub places_at_hand : (picture : Rows) (machine : Machined) (facts : Masks) (height width : ℕ) (literals : List Literal) (places : List ℕ) → IsRight picture machine → height ≡ machine.height
    → width ≡ machine.width → facts ≡ machine.walk.at_hand → ArePlaces height width literals places → ArePlaces (length facts) (width_of facts) literals places
places_at_hand picture machine facts height width literals places right h w f are =
    let tall : height ≡ length facts = h ∙ (right.height ∙ (right.tallied.same_shape.rows ∙ sym (ap length f))) in
    let wide : width ≡ width_of facts = w ∙ (right.width ∙ (right.tallied.same_shape.each 0 ∙ sym (ap width_of f))) in
    rw (← tall, ← wide) are

pub ruleset moving = (goes_on, same_next)
