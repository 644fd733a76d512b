-- The loops that read and write content: what holds once they are at some byte.
use Rattle.std.proofs.Common.{◌≡◌, ◌≢◌, ℕ, zero, suc, ◌+◌, ◌-◌, ◌*◌, ◌/◌, ◌%◌, ◌≤◌, ◌<◌, min, Bool, true, false, IsTrue, List, [], ◌∷◌, ◌++◌, Some, None, is_some, length, take, drop, get_or, sym, ap, ap₂, subst, ◌∙◌, arith, rules}
use Rattle.std.specs.List.{All, slice_get}
use Rattle.std.proofs.lemmas.List.{places, same_lists, length-take, length-drop, append_assoc, get_or-take, get_or-drop}
use Rattle.std.proofs.lemmas.Bool.Decides.{nat_tests}
use Rattle.std.proofs.lemmas.Option.{slice_get_within, get_or_from_slice_get}
use Rattle.std.proofs.lemmas.Bool.{false_from_ne_true}
use Rattle.base_types.specs.Seal.{Blocks}
use Rattle.base_types.specs.declared.words.Class.{Class}
use Rattle.engine_blocks.specs.Running.{has}
use Rattle.engine_blocks.specs.State.{State}
use Rattle.crash_stands.specs.Files.{joined}
use Rattle.fs_files.specs.Bytes.{overwrite, met, blocks_for}
use Rattle.fs_files.specs.Content.{HasContent, HasNewBytes, WritesContent}
use Rattle.fs_files.specs.Drafts.{DraftState, change_of, drafted}
use Rattle.fs_files.specs.Effects.{LooksOnly}
use Rattle.fs_files.proofs.bytes.Overwrites.{overwrite_more, length-overwrite}
use Rattle.fs_files.proofs.bytes.Joins.{of_place, joined_length, joined_part, joined_put}
use Rattle.fs_files.specs.Places.{looks_more}
use Rattle.fs_files.proofs.bytes.Pieces.{has_one, writes_more, drafted_kept, content_kept}

-- Which block a byte is in.

-- a number that is at a place of a list is one of it
pub has_at : (xs : List ℕ) (i : ℕ) → i < length xs → has xs (get_or xs i 0) ≡ true
has_at [] i l = absurd (omega arith)
has_at (x ∷ xs) zero l = grind (arith, nat_tests)
has_at (x ∷ xs) (suc i) l = grind (arith, nat_tests, (has_at xs i (omega arith)))

-- the block of a byte from `lo` to `hi` is one of those that these bytes meet
pub met_has : (lo hi at b : ℕ) (ps : List ℕ) → lo ≤ at → at < hi → slice_get ps (at / 1024) ≡ Some b → has (met lo hi ps) b ≡ true
met_has lo hi at b ps from below place =
    let within : at / 1024 < length ps = slice_get_within ps (at / 1024) b place in
    let low : lo / 1024 ≤ at / 1024 = omega arith in
    let high : at / 1024 < blocks_for hi = omega arith in
    let size : length (met lo hi ps) ≡ min (blocks_for hi) (length ps) - lo / 1024 = length-drop (lo / 1024) (take (blocks_for hi) ps) ∙ ap (λ n. n - lo / 1024) (length-take (blocks_for hi) ps) in
    let same : get_or (met lo hi ps) (at / 1024 - lo / 1024) 0 ≡ b =
    get_or-drop (lo / 1024) (take (blocks_for hi) ps) (at / 1024 - lo / 1024) 0
    ∙ ap (λ i. get_or (take (blocks_for hi) ps) i 0) {x = lo / 1024 + (at / 1024 - lo / 1024)} {y = at / 1024} (omega arith)
    ∙ get_or-take (blocks_for hi) ps (at / 1024) 0 high
    ∙ get_or_from_slice_get ps (at / 1024) b 0 place in
    subst (λ q. has (met lo hi ps) q ≡ true) same (has_at (met lo hi ps) (at / 1024 - lo / 1024) (omega arith))

-- what holds of one holds of each of a list of it alone
all_one : (P : ℕ → Type 0) (b : ℕ) → P b → All P (b ∷ [])
all_one P b p zero d l = p
all_one P b p (suc i) d l = absurd (omega arith)

-- the content of one of the places
pub content_at : (m : Blocks) (d : DraftState) (ps : List ℕ) (i b : ℕ) → HasContent m d ps → slice_get ps i ≡ Some b → HasContent m d (b ∷ [])
content_at m d ps i b content place = record {
  whole = all_one (λ q. length (drafted d m q) ≡ 1024) b (of_place (λ q. length (drafted d m q) ≡ 1024) ps i b content.whole place);
  once = λ x y z l h. absurd (omega arith);
  apart = all_one (λ q. is_some (change_of d.fresh q) ≡ true → change_of d.changed q ≡ None) b (of_place (λ q. is_some (change_of d.fresh q) ≡ true → change_of d.changed q ≡ None) ps i b content.apart place);
}

-- Reading.

-- the bytes from `from` to `at` were read
pub record ReadsUpTo (tells : Bool) (s t : State) (d : DraftState) (ps : List ℕ) (from at end : ℕ) (old new : List ℕ) : Type 0 where
  pub above : from ≤ at
  pub below : at ≤ end
  pub looks : LooksOnly tells false s t
  pub bytes : IsTrue tells → HasContent s.map d ps → new ≡ old ++ take (at - from) (drop from (joined (drafted d s.map) ps))

take_on : (from at count : ℕ) (xs : List ℕ) → from ≤ at → take (at - from) (drop from xs) ++ take count (drop at xs) ≡ take (at + count - from) (drop from xs)
take_on from at count xs above = same_lists _ _ (search (rules, places)) (λ k d h. grind (arith, places))

-- one part more was read
pub reads_more : (tells : Bool) (s t u : State) (d : DraftState) (ps : List ℕ) (from at end count b : ℕ) (old new block : List ℕ)
    → ReadsUpTo tells s t d ps from at end old new → at < end → count ≡ min (1024 - at % 1024) (end - at) → slice_get ps (at / 1024) ≡ Some b
    → (IsTrue tells → length (drafted d t.map b) ≡ 1024 → block ≡ drafted d t.map b)
    → LooksOnly tells false t u → ReadsUpTo tells s u d ps from (at + count) end old (new ++ take count (drop (at % 1024) block))
reads_more tells s t u d ps from at end count b old new block reads before size place seen looks = record {
  above = omega (arith, reads.above);
  below = omega (arith, size);
  looks = looks_more tells false s t u reads.looks looks;
  bytes = λ told content.
      let map : t.map ≡ s.map = reads.looks.map told in
      let big : length (drafted d s.map b) ≡ 1024 = of_place (λ q. length (drafted d s.map q) ≡ 1024) ps (at / 1024) b content.whole place in
      let is : block ≡ drafted d s.map b = seen told (ap (λ m. length (drafted d m b)) map ∙ big) ∙ ap (λ m. drafted d m b) map in
      let part : take count (drop at (joined (drafted d s.map) ps)) ≡ take count (drop (at % 1024) block) =
      ap (λ k. take count (drop k (joined (drafted d s.map) ps))) {x = at} {y = 1024 * (at / 1024) + at % 1024} (omega arith)
      ∙ joined_part (drafted d s.map) ps (at / 1024) b (at % 1024) count content.whole place (omega (arith, size))
      ∙ ap (λ xs. take count (drop (at % 1024) xs)) (sym is) in
      ap₂ (λ (x y : List ℕ). x ++ y) (reads.bytes told content) (sym part)
      ∙ append_assoc old (take (at - from) (drop from (joined (drafted d s.map) ps))) (take count (drop at (joined (drafted d s.map) ps)))
      ∙ ap (λ xs. old ++ xs) (take_on from at count (joined (drafted d s.map) ps) reads.above);
}

-- Writing.

-- the first `done` bytes were written, and of the places the blocks bs alone changed
pub record WritesUpTo (tells : Bool) (s t : State) (class : Class) (bs : List ℕ) (d e : DraftState) (ps : List ℕ) (from done : ℕ) (ys : List ℕ) : Type 0 where
  pub below : done ≤ length ys
  pub aligned : from % 1024 ≡ 0 → length ys % 1024 ≡ 0 → done % 1024 ≡ 0
  pub looks : LooksOnly tells false s t
  pub writes : WritesContent class bs d e
  pub some : 0 < done → HasNewBytes e
  pub content : IsTrue tells → HasContent s.map d ps → HasContent s.map e ps
  pub bytes : IsTrue tells → HasContent s.map d ps → joined (drafted e s.map) ps ≡ overwrite from (take done ys) (joined (drafted d s.map) ps)

-- where one block alone got bytes over its own, each place still has 1,024 bytes
still_whole : (m : Blocks) (class : Class) (e f : DraftState) (ps : List ℕ) (b start : ℕ) (piece : List ℕ) → All (λ q. length (drafted e m q) ≡ 1024) ps → length (drafted e m b) ≡ 1024 → start + length piece ≤ 1024
    → WritesContent class (b ∷ []) e f → drafted f m b ≡ overwrite start piece (drafted e m b) → (q : ℕ) → length (drafted e m q) ≡ 1024 → length (drafted f m q) ≡ 1024
still_whole m class e f ps b start piece whole size fits writes own q was = grind (arith, nat_tests, has_one, length-overwrite, drafted_kept)

not_has : (b q : ℕ) → q ≢ b → has (b ∷ []) q ≡ false
not_has b q differs = false_from_ne_true (has (b ∷ []) q) (λ one. differs (has_one b q one))

-- one piece more was written
pub writes_on : (tells : Bool) (s t u : State) (class : Class) (d e f : DraftState) (ps : List ℕ) (from done count b : ℕ) (bytes : List ℕ)
    → WritesUpTo tells s t class (met from (from + length bytes) ps) d e ps from done bytes → done < length bytes → count ≡ min (1024 - (from + done) % 1024) (length bytes - done)
    → from + length bytes ≤ 1024 * length ps → slice_get ps ((from + done) / 1024) ≡ Some b
    → WritesContent class (b ∷ []) e f → HasNewBytes f
    → (IsTrue tells → HasContent t.map e (b ∷ []) → drafted f t.map b ≡ overwrite ((from + done) % 1024) (take count (drop done bytes)) (drafted e t.map b))
    → LooksOnly tells false t u → WritesUpTo tells s u class (met from (from + length bytes) ps) d f ps from (done + count) bytes
writes_on tells s t u class d e f ps from done count b bytes so_far before size within place writes some put looks = record {
  below = omega (arith, size);
  aligned = λ e g. let whole : done % 1024 ≡ 0 = so_far.aligned e g in omega (arith, size, whole);
  looks = looks_more tells false s t u so_far.looks looks;
  writes = writes_more class (met from (from + length bytes) ps) b d e f so_far.writes writes (met_has from (from + length bytes) (from + done) b ps (omega arith) (omega arith) place);
  some = λ l. some;
  content = λ told content.
      let now : HasContent s.map e ps = so_far.content told content in
      let big : length (drafted e s.map b) ≡ 1024 = of_place (λ q. length (drafted e s.map q) ≡ 1024) ps ((from + done) / 1024) b now.whole place in
      content_kept s.map class (b ∷ []) e f ps now writes
      (λ i z l. still_whole s.map class e f ps b ((from + done) % 1024) (take count (drop done bytes)) now.whole big fits_in writes (own told now) (get_or ps i z) (now.whole i z l));
  bytes = λ told content.
      let now : HasContent s.map e ps = so_far.content told content in
      joined_put (drafted e s.map) (drafted f s.map) ps ((from + done) / 1024) b ((from + done) % 1024) (take count (drop done bytes)) now.whole now.once place fits_in (own told now)
      (λ q differs. drafted_kept s.map class (b ∷ []) e f q writes (not_has b q differs))
      ∙ ap (λ k. overwrite k (take count (drop done bytes)) (joined (drafted e s.map) ps)) {x = 1024 * ((from + done) / 1024) + (from + done) % 1024} {y = from + done} (omega arith)
      ∙ ap (λ xs. overwrite (from + done) (take count (drop done bytes)) xs) (so_far.bytes told content)
      ∙ overwrite_more from done count bytes (joined (drafted d s.map) ps) (omega (arith, joined_length (drafted d s.map) ps content.whole)) (omega (arith, size));
}
  where
    fits_in : (from + done) % 1024 + length (take count (drop done bytes)) ≤ 1024
    fits_in = omega (arith, size, length-take count (drop done bytes), length-drop done bytes)

    own : IsTrue tells → HasContent s.map e ps → drafted f s.map b ≡ overwrite ((from + done) % 1024) (take count (drop done bytes)) (drafted e s.map b)
    own told now =
        let map : t.map ≡ s.map = so_far.looks.map told in
        ap (λ m. drafted f m b) (sym map)
        ∙ put told (subst (λ m. HasContent m e (b ∷ [])) (sym map) (content_at s.map e ps ((from + done) / 1024) b now place))
        ∙ ap (λ m. overwrite ((from + done) % 1024) (take count (drop done bytes)) (drafted e m b)) map
