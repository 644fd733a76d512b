-- The paths that a walk has still to come to, with one directory more, or with another path at its end.
use Rattle.std.proofs.Common.{◌≡◌, ℕ, suc, ◌+◌, ◌<◌, List, [], ◌∷◌, ◌++◌, length, take, refl, sym, subst, ap, ap₂, ◌∙◌, arith, append_assoc, append-nil}
use Rattle.std.proofs.lemmas.Grind.{flat_map-append}
use Rattle.std.specs.FinMap.{get}
use Rattle.lang_tree.specs.Tree.{Tree}
use Rattle.lang_tree.specs.Listing.{line_of}
use Rattle.crash_stands.specs.Inodes.{Inodes}
use Rattle.crash_stands.specs.Walks.{LeadsTo}
use Rattle.fs_commands.specs.declared.listing.Frame.{Frame}
use Rattle.fs_commands.specs.Listing.{Paths, lines_of, under_names, paths_left, IsFrame, AreFrames, turns_of, turns_in, names_left}

-- the lines of paths in a row
pub lines_join : (t : Tree) (xs ys : Paths) → lines_of t (xs ++ ys) ≡ lines_of t xs ++ lines_of t ys
lines_join t xs ys = flat_map-append (λ e. line_of e.0 e.1 (get t.nodes e.1)) xs ys

-- The paths that are left, with one directory more.
pub left_behind : (t : Tree) (path : List (List ℕ)) (depth : ℕ) (frames : List Frame) (f : Frame)
    → paths_left t path depth (frames ++ f ∷ []) ≡ under_names t (take (depth + length frames) path) (names_left f) ++ paths_left t path depth frames
left_behind t path depth [] f =
    let here : depth ≡ depth + 0 = omega arith in
    ap (λ d. under_names t (take d path) (names_left f)) here ∙ sym (append-nil (under_names t (take (depth + 0) path) (names_left f)))
left_behind t path depth (g ∷ frames) f =
    let here : depth + 1 + length frames ≡ depth + suc (length frames) = omega arith in
    let own = under_names t (take depth path) (names_left g) in
    ap (λ l. l ++ own) (left_behind t path (depth + 1) frames f)
    ∙ append_assoc (under_names t (take (depth + 1 + length frames) path) (names_left f)) (paths_left t path (depth + 1) frames) own
    ∙ ap (λ d. under_names t (take d path) (names_left f) ++ (paths_left t path (depth + 1) frames ++ own)) here

module _ (path other : List (List ℕ)) where
  -- two paths begin with the same names above each of so many directories
  abbrev pub AreAlike : ℕ → ℕ → Type 0
  AreAlike depth count = (d : ℕ) → d < depth + count → take d path ≡ take d other

  next_alike : (depth count : ℕ) → AreAlike depth (suc count) → AreAlike (depth + 1) count
  next_alike depth count alike d low = alike d (omega (arith, low))

  -- then as many paths are left
  pub left_alike : (t : Tree) (depth : ℕ) (frames : List Frame) → AreAlike depth (length frames) → paths_left t path depth frames ≡ paths_left t other depth frames
  left_alike t depth [] alike = refl
  left_alike t depth (f ∷ frames) alike =
      ap₂ (λ l up. l ++ under_names t up (names_left f)) (left_alike t (depth + 1) frames (next_alike depth (length frames) alike)) (alike depth (omega arith))

  -- and they lead to the same directories
  pub frames_alike : (m : Inodes) (depth : ℕ) (frames : List Frame) → AreAlike depth (length frames) → AreFrames m path depth frames → AreFrames m other depth frames
  frames_alike m depth [] alike h = tt
  frames_alike m depth (f ∷ frames) alike h = (
    record { leads = subst (λ up. LeadsTo m up f.dir) (alike depth (omega arith)) h.0.leads; slots = h.0.slots; dir = h.0.dir; entries = h.0.entries },
    frames_alike m (depth + 1) frames (next_alike depth (length frames) alike) h.1,
  )

module _ (m : Inodes) (path : List (List ℕ)) where
  -- directories, and one deeper
  pub frames_join : (depth : ℕ) (frames : List Frame) (f : Frame) → AreFrames m path depth frames → IsFrame m path (depth + length frames) f → AreFrames m path depth (frames ++ f ∷ [])
  frames_join depth [] f h one = let here : depth + 0 ≡ depth = omega arith in (subst (λ d. IsFrame m path d f) here one, tt)
  frames_join depth (g ∷ frames) f h one =
      let here : depth + suc (length frames) ≡ depth + 1 + length frames = omega arith in
      (h.0, frames_join (depth + 1) frames f h.1 (subst (λ d. IsFrame m path d f) here one))

  pub frames_split : (depth : ℕ) (frames : List Frame) (f : Frame) → AreFrames m path depth (frames ++ f ∷ []) → AreFrames m path depth frames × IsFrame m path (depth + length frames) f
  frames_split depth [] f h = let here : depth ≡ depth + 0 = omega arith in (tt, subst (λ d. IsFrame m path d f) here h.0)
  frames_split depth (g ∷ frames) f h =
      let here : depth + 1 + length frames ≡ depth + suc (length frames) = omega arith in
      let rest = frames_split (depth + 1) frames f h.1 in
      ((h.0, rest.0), subst (λ d. IsFrame m path d f) here rest.1)

-- the turns of directories, and of one deeper
pub turns_join : (frames : List Frame) (f : Frame) → turns_in (frames ++ f ∷ []) ≡ turns_in frames + turns_of f
turns_join [] f = omega arith
turns_join (g ∷ frames) f = ap (λ n. turns_of g + n) (turns_join frames f) ∙ omega arith
