-- What the steps of a reader do to what it has given.
use Rattle.std.proofs.Common.{◌≡◌, ℕ, ◌+◌, ◌-◌, ◌≤◌, min, Bool, true, false, List, [], ◌∷◌, ◌++◌, length, take, drop, refl, sym, ap, ap₂, ◌∙◌, arith, append_assoc, append-nil, take-append-drop, take_all, cond}
use Rattle.lang_lines.specs.Lines.{longest, open_line, items_of_line, whole_items, items_of}
use Rattle.lang_lines.specs.Reading.{ReaderState, HasGivenItems}
use Rattle.lang_lines.specs.Steps.{GoesOn, EndsWith}
use Rattle.lang_lines.proofs.Lists.{kept_more}
use Rattle.lang_lines.proofs.Parts.{feedless, open-more, whole-more, whole-feed, open-feed, items-end, items-more, line_kept, none_kept}

-- the longest line as the code has it
pub one_past : longest + 1 ≡ 262145
unfolding longest
one_past = refl

-- bytes that are looked at stand behind those that were
moved : (seen front ahead later : List ℕ) (count : ℕ) → seen ≡ front ++ ahead → later ≡ drop count ahead → seen ≡ (front ++ take count ahead) ++ later
moved seen front ahead later count split is =
    split ∙ ap (λ t. front ++ t) (sym (take-append-drop count ahead)) ∙ sym (append_assoc front (take count ahead) (drop count ahead))
    ∙ ap (λ t. (front ++ take count ahead) ++ t) (sym is)

-- what the code puts behind the open line
pub kept_line : (count more room len : ℕ) (kept l k bytes line ahead : List ℕ) → kept ≡ l ++ take more bytes → bytes ≡ k → more ≡ min count room → room ≡ 262145 - len → len ≡ length l
    → l ≡ line → k ≡ ahead → kept ≡ line ++ take (min count (longest + 1 - length line)) ahead
kept_line count more room len kept l k bytes line ahead is b m s n l_is k_is =
    is ∙ ap₂ (λ i t. l ++ take i t) (m ∙ ap (min count) (s ∙ ap₂ (λ x y. x - y) (sym one_past) (n ∙ ap (λ (t : List ℕ). length t) l_is))) (b ∙ k_is)
    ∙ ap (λ t. t ++ take (min count (longest + 1 - length line)) ahead) l_is

module _ {A : Type 0} (bad : A) (says : List ℕ → A) where
  abbrev each : List ℕ → List A
  each = items_of_line bad says longest

  -- before the end the items that were given are those of the whole lines
  pub while_open : (seen : List ℕ) (items : List A) (r : ReaderState) (h : HasGivenItems each seen items r) → r.over ≡ false → items ≡ whole_items each h.front
  while_open seen items r h going = h.are ∙ ap (λ b. cond b (items_of each h.front) (whole_items each h.front)) going

  by_open : (over : Bool) (front : List ℕ) → over ≡ false → whole_items each front ≡ cond over (items_of each front) (whole_items each front)
  by_open over front going = sym (ap (λ b. cond b (items_of each front) (whole_items each front)) going)

  -- bytes without a line feed are more of the open line
  pub keeps : (old new : ReaderState) (count : ℕ) → old.over ≡ false → count ≤ length old.ahead → feedless (take count old.ahead) ≡ true
      → new.count ≡ old.count → new.over ≡ old.over → new.ahead ≡ drop count old.ahead
      → new.line ≡ old.line ++ take (min count (longest + 1 - length old.line)) old.ahead → GoesOn each [] old new
  keeps old new count going fits none counted same ahead line = record {
    count = counted;
    over = same;
    given = λ seen items h. record {
      front = h.front ++ take count old.ahead;
      split = moved seen h.front old.ahead new.ahead count h.split ahead;
      count = counted ∙ h.count;
      most = h.most;
      are = append-nil items ∙ while_open seen items old h going ∙ sym (whole-more each h.front (take count old.ahead) none) ∙ by_open new.over (h.front ++ take count old.ahead) (same ∙ going);
      line = λ _. line ∙ kept_more (longest + 1) count (open_line h.front) old.line old.ahead (h.line going) fits ∙ ap (take (longest + 1)) (sym (open-more h.front (take count old.ahead) none));
    };
  }

  -- a line feed ends the open line
  pub closes : (old new : ReaderState) (found : List A) → old.over ≡ false → old.ahead ≡ 10 ∷ drop 1 old.ahead → found ≡ each old.line
      → new.count ≡ old.count → new.over ≡ old.over → new.ahead ≡ drop 1 old.ahead → new.line ≡ [] → GoesOn each found old new
  closes old new found going feed is counted same ahead line = record {
    count = counted;
    over = same;
    given = λ seen items h. record {
      front = h.front ++ 10 ∷ [];
      split = h.split ∙ ap (λ t. h.front ++ t) feed ∙ sym (append_assoc h.front (10 ∷ []) (drop 1 old.ahead)) ∙ ap (λ t. (h.front ++ 10 ∷ []) ++ t) (sym ahead);
      count = counted ∙ h.count;
      most = h.most;
      are = ap₂ (λ l r. l ++ r) (while_open seen items old h going) (is ∙ ap (each) (h.line going) ∙ line_kept bad says longest (open_line h.front))
          ∙ sym (whole-feed each h.front) ∙ by_open new.over (h.front ++ 10 ∷ []) (same ∙ going);
      line = λ _. line ∙ sym (ap (take (longest + 1)) (open-feed h.front) ∙ take_all (longest + 1) [] (omega arith));
    };
  }

  -- a line that lies whole ahead, where none is open
  pub takes : (old new : ReaderState) (at : ℕ) (found : List A) → old.over ≡ false → old.line ≡ [] → feedless (take at old.ahead) ≡ true → drop at old.ahead ≡ 10 ∷ drop (at + 1) old.ahead
      → found ≡ each (take at old.ahead) → new.count ≡ old.count → new.over ≡ old.over → new.ahead ≡ drop (at + 1) old.ahead → new.line ≡ [] → GoesOn each found old new
  takes old new at found going empty none feed is counted same ahead line = record {
    count = counted;
    over = same;
    given = λ seen items h.
        let part = take at old.ahead in
        let rest = drop (at + 1) old.ahead in
        let nothing : open_line h.front ≡ [] = none_kept longest (open_line h.front) (sym empty ∙ h.line going) in
        let opened : open_line (h.front ++ part) ≡ part = open-more h.front part none ∙ ap (λ t. t ++ part) nothing in
        record {
          front = (h.front ++ part) ++ 10 ∷ [];
          split = moved seen h.front old.ahead (drop at old.ahead) at h.split refl ∙ ap (λ t. (h.front ++ part) ++ t) feed ∙ sym (append_assoc (h.front ++ part) (10 ∷ []) rest)
              ∙ ap (λ t. ((h.front ++ part) ++ 10 ∷ []) ++ t) (sym ahead);
          count = counted ∙ h.count;
          most = h.most;
          are = ap₂ (λ l r. l ++ r) (while_open seen items old h going ∙ sym (whole-more each h.front part none)) (is ∙ ap (each) (sym opened))
              ∙ sym (whole-feed each (h.front ++ part)) ∙ by_open new.over ((h.front ++ part) ++ 10 ∷ []) (same ∙ going);
          line = λ _. line ∙ sym (ap (take (longest + 1)) (open-feed (h.front ++ part)) ∙ take_all (longest + 1) [] (omega arith));
        };
  }

  -- at the end of the input the open line is the last one
  pub ends : (old new : ReaderState) (found : List A) → old.over ≡ false → old.ahead ≡ [] → found ≡ each old.line
      → new.count ≡ old.count → new.over ≡ true → new.ahead ≡ [] → EndsWith each found old new
  ends old new found going none is counted over ahead = record {
    count = counted;
    over = over;
    ahead = ahead;
    given = λ seen items h. record {
      front = h.front;
      split = h.split ∙ ap (λ t. h.front ++ t) (none ∙ sym ahead);
      count = counted ∙ h.count;
      most = h.most;
      are = ap₂ (λ l r. l ++ r) (while_open seen items old h going) (is ∙ ap (each) (h.line going) ∙ line_kept bad says longest (open_line h.front))
          ∙ sym (items-end each h.front) ∙ sym (ap (λ b. cond b (items_of each h.front) (whole_items each h.front)) over);
      line = λ still. absurd (cc (over, still));
    };
  }

  -- the items that were given are the first ones of the input, whatever comes behind what was pulled
  pub gives_first : (seen rest : List ℕ) (items : List A) (r : ReaderState) → HasGivenItems each seen items r → r.over ≡ false → (later : List A) × (items_of each (seen ++ rest) ≡ items ++ later)
  gives_first seen rest items r h going =
      let more = items-more each h.front (r.ahead ++ rest) in
      (more.0, ap (λ t. items_of each (t ++ rest)) h.split ∙ ap (items_of each) (append_assoc h.front r.ahead rest) ∙ more.1 ∙ ap (λ l. l ++ more.0) (sym (while_open seen items r h going)))

  -- where all that was pulled is looked at, what its whole lines say was given
  pub gives_whole : (seen : List ℕ) (items : List A) (r : ReaderState) → HasGivenItems each seen items r → r.over ≡ false → r.ahead ≡ [] → items ≡ whole_items each seen
  gives_whole seen items r h going none =
      while_open seen items r h going ∙ ap (whole_items each) (sym (h.split ∙ ap (λ t. h.front ++ t) none ∙ append-nil h.front))
