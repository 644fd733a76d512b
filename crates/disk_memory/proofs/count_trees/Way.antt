-- The way down from the root to a leaf.
use Rattle.std.proofs.Common.{◌≡◌, ℕ, zero, suc, ◌+◌, ◌-◌, ◌*◌, ◌<◌, ◌≤◌, List, ap, ◌∙◌, arith}
use Rattle.std.specs.Prelude.{slice_index}
use Rattle.disk_memory.specs.Counts.{AreMarks, AreSums, IsDoubled, sum_from}
use Rattle.disk_memory.proofs.count_trees.Sums.{sum_below, doubled_up}

-- a place on its level: what is before it there and what is left make up the rank, and the place has more than is left
pub record IsOnWay (counts : List ℕ) (size rank place left : ℕ) : Type 0 where
  pub times : ℕ
  pub level : ℕ
  pub along : ℕ
  pub doubled : IsDoubled times level size
  pub is : place ≡ level + along
  pub short : along < level
  pub before : sum_from counts level along + left ≡ rank
  pub more : left < slice_index counts place

first_from : (counts : List ℕ) (size rank place left times level along : ℕ) → AreSums counts size → place < size → left < slice_index counts (2 * place) → IsDoubled times level size → place ≡ level + along → along < level → sum_from counts level along + left ≡ rank → IsOnWay counts size rank (2 * place) left
first_from counts size rank place left zero level along sums within first d is short before = absurd (omega (arith, d))
first_from counts size rank place left (suc times) level along sums within first d is short before = record {
  times = times;
  level = 2 * level;
  along = 2 * along;
  doubled = d;
  is = omega arith;
  short = omega arith;
  before = omega (arith, sum_below counts size level along sums (omega arith) (omega arith), before);
  more = first;
}

-- down to the first of the two places below
pub way_first : (counts : List ℕ) (size rank place left : ℕ) → AreSums counts size → place < size → left < slice_index counts (2 * place) → IsOnWay counts size rank place left → IsOnWay counts size rank (2 * place) left
way_first counts size rank place left sums within first way = first_from counts size rank place left way.times way.level way.along sums within first way.doubled way.is way.short way.before

second_from : (counts : List ℕ) (size rank place left times level along : ℕ) → AreSums counts size → place < size → slice_index counts (2 * place) ≤ left → IsDoubled times level size → place ≡ level + along → along < level → sum_from counts level along + left ≡ rank → left < slice_index counts place → IsOnWay counts size rank (2 * place + 1) (left - slice_index counts (2 * place))
second_from counts size rank place left zero level along sums within past d is short before more = absurd (omega (arith, d))
second_from counts size rank place left (suc times) level along sums within past d is short before more =
    let here : slice_index counts (2 * level + 2 * along) ≡ slice_index counts (2 * place) = ap (slice_index counts) (omega arith) in
    let next : sum_from counts (2 * level) (2 * along + 1) ≡ sum_from counts (2 * level) (2 * along) + slice_index counts (2 * level + 2 * along) = ap (sum_from counts (2 * level)) {x = 2 * along + 1} {y = suc (2 * along)} (omega arith) in
    record {
      times = times;
      level = 2 * level;
      along = 2 * along + 1;
      doubled = d;
      is = omega arith;
      short = omega arith;
      before = omega (arith, here, next, sum_below counts size level along sums (omega arith) (omega arith), before);
      more = omega (arith, sums place (omega arith) within, more);
    }

-- down to the second one
pub way_second : (counts : List ℕ) (size rank place left : ℕ) → AreSums counts size → place < size → slice_index counts (2 * place) ≤ left → IsOnWay counts size rank place left → IsOnWay counts size rank (2 * place + 1) (left - slice_index counts (2 * place))
way_second counts size rank place left sums within past way = second_from counts size rank place left way.times way.level way.along sums within past way.doubled way.is way.short way.before way.more

-- a leaf of the way: its place on the level, and that nothing is left
pub record IsEnd (counts : List ℕ) (size rank place : ℕ) : Type 0 where
  pub above : size ≤ place
  pub within : place - size < size
  pub marked : slice_index counts (size + (place - size)) ≡ 1
  pub before : sum_from counts size (place - size) ≡ rank

end_from : (counts : List ℕ) (size rank place left times level along : ℕ) → AreMarks counts size → size ≤ place → IsDoubled times level size → place ≡ level + along → along < level → sum_from counts level along + left ≡ rank → left < slice_index counts place → IsEnd counts size rank place
end_from counts size rank place left zero level along marks past d is short before more =
    let same : sum_from counts level along ≡ sum_from counts size (place - size) = ap (λ k. sum_from counts k along) d ∙ ap (sum_from counts size) {x = along} {y = place - size} (omega (arith, d)) in
    let here : slice_index counts (size + (place - size)) ≡ slice_index counts place = ap (slice_index counts) (omega arith) in
    record {
      above = past;
      within = omega (arith, d);
      marked = omega (arith, here, marks (place - size), more);
      before = omega (arith, same, here, marks (place - size), more, before);
    }
end_from counts size rank place left (suc times) level along marks past d is short before more = absurd (omega (arith, doubled_up times (2 * level) size d))

-- at the end of the way
pub way_end : (counts : List ℕ) (size rank place left : ℕ) → AreMarks counts size → size ≤ place → IsOnWay counts size rank place left → IsEnd counts size rank place
way_end counts size rank place left marks past way = end_from counts size rank place left way.times way.level way.along marks past way.doubled way.is way.short way.before way.more
