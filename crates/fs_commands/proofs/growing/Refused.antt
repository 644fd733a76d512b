-- Why a command is refused whose file or directory couldn't grow: there were never too few blocks, since it had room.
use Rattle.std.proofs.Common.{◌≡◌, inl, inr, ℕ, ◌+◌, ◌-◌, ◌^◌, ◌≤◌, min, Bool, true, false, cond, List, [], ◌∷◌, take, length, filter, None, Some, refl, ap, ap₂, ◌∙◌, arith}
use Rattle.std.proofs.lemmas.List.{length-take}
use Rattle.std.proofs.lemmas.List.Sums.{count_by-le-length}
use Rattle.std.proofs.lemmas.Slice.Zip.{length-zip}
use Rattle.std.specs.List.{zip}
use Rattle.layout_geometry.specs.Geometry.{Geometry}
use Rattle.layout_extent.specs.Renew.{renew}
use Rattle.layout_extent.specs.Runs.{stretches, is_break}
use Rattle.lang_tree.specs.declared.command.Cmd.{Cmd}
use Rattle.lang_tree.specs.declared.command.Refusal.TheVariants as because
use Rattle.lang_tree.specs.Conditions.{refusal}
use Rattle.lang_tree.specs.Step.{Session}
use Rattle.engine_blocks.specs.Running.{Running}
use Rattle.engine_blocks.specs.Calls.{IsSound, MovesPipeline}
use Rattle.engine_blocks.specs.State.{Bookkeeping, State, data_blocks, live_blocks, reusable_blocks}
use Rattle.fs_files.specs.declared.refusal.FileRefusal.{FileRefusal}
use Rattle.fs_files.specs.declared.refusal.FileRefusal.TheVariants as file
use Rattle.fs_files.specs.Calls.{GrowthRefused}
use Rattle.fs_session.specs.Commands.{figures_on, grown_on, places_of, renewed_on, IsRefusedFor}
use Rattle.fs_commands.specs.Refusals.{refusal_of}
use Rattle.fs_session.specs.Space.{HasRoom, left_of}

-- a list has no more stretches than places
pub few_stretches : (xs : List ℕ) → stretches xs ≤ length xs
few_stretches [] = omega arith
few_stretches (x ∷ xs) = omega (arith, count_by-le-length is_break (zip (x ∷ xs) xs), length-zip (x ∷ xs) xs)

-- once none waits, as many may be taken as are left
pub reusable_are_left : (k l : Bookkeeping) → IsSound l → MovesPipeline k l → l.waiting ≡ 0 → length (reusable_blocks l) ≡ left_of k
reusable_are_left k l sound moves none =
    let live : live_blocks l ≡ live_blocks k = ap₂ (λ m (g : Geometry). filter m (data_blocks g)) moves.marked moves.geom in
    omega (arith, sound.accounts, none, moves.area, ap (λ (xs : List ℕ). length xs) live, ap (λ (r : Running). r.held) moves.running)

-- a growth is refused alike where its blocks stand alike
pub refused_alike : (n : ℕ) (with_more as_more : List ℕ → List ℕ) (old new : Bookkeeping) → ((more : List ℕ) → with_more more ≡ as_more more) → (why : FileRefusal) → GrowthRefused n with_more old new why → GrowthRefused n as_more old new why
refused_alike n with_more as_more old new same file.ReadFault h = tt
refused_alike n with_more as_more old new same file.NoMemory h = tt
refused_alike n with_more as_more old new same file.DiskFault h = h
refused_alike n with_more as_more old new same (file.Short need reusable) h = h
refused_alike n with_more as_more old new same (file.Scattered runs) h = (h.0 ∙ ap stretches (same (take n (reusable_blocks new))), h.1, h.2)

-- with some numbers renewed a list has no more than with all of them behind it
renewed_length : (test : ℕ → Bool) (i : ℕ) (xs more : List ℕ) → length (renew test i xs more) ≤ length xs + length more
renewed_length test i [] more = omega arith
renewed_length test i (x ∷ xs) [] = omega arith
renewed_length test i (x ∷ xs) (y ∷ more) = by (test i) (renewed_length test (i + 1) xs more) (renewed_length test (i + 1) xs (y ∷ more))
  where
    by : (b : Bool) → length (renew test (i + 1) xs more) ≤ length xs + length more → length (renew test (i + 1) xs (y ∷ more)) ≤ length xs + length (y ∷ more)
        → length (cond b (y ∷ renew test (i + 1) xs more) (x ∷ renew test (i + 1) xs (y ∷ more))) ≤ length (x ∷ xs) + length (y ∷ more)
    by true one two = omega (arith, one)
    by false one two = omega (arith, two)

module _ (old new : State) (f : Session) (cmd : Cmd) (node : ℕ) (sound : IsSound new.books) (moves : MovesPipeline old.books new.books) (small : old.books.geom.n ≤ 1048576)
    (accepted : refusal f.limit f.tree cmd ≡ None) (room : HasRoom old.books (figures_on old f cmd)) (grows : grown_on old cmd ≡ Some node) (few : length (places_of old node) ≤ 1048576) where
  -- its blocks with these new ones
  abbrev with_more : List ℕ → List ℕ
  with_more more = renew (renewed_on old f cmd node) 0 (places_of old node) more

  -- the number of runs fits
  number_fits : (n : ℕ) → n ≤ length (reusable_blocks new.books) → stretches (with_more (take n (reusable_blocks new.books))) ≤ 2 ^ 32 - 1
  number_fits n enough =
      let more = take n (reusable_blocks new.books) in
      omega (arith, few_stretches (with_more more), renewed_length (renewed_on old f cmd node) 0 (places_of old node) more, length-take n (reusable_blocks new.books), few, sound.accounts, sound.area, ap (λ (g : Geometry). g.n) moves.geom, small)

  pub growth_refused : (why : FileRefusal) → GrowthRefused (figures_on old f cmd).need with_more old.books new.books why → IsRefusedFor old new f cmd (refusal_of why)
  growth_refused file.ReadFault h = inr (inr (inr (inl refl)))
  growth_refused file.NoMemory h = inr (inr (inr (inr refl)))
  growth_refused file.DiskFault h = inr (inr (inl (record { accepted = accepted; room = room; is = refl; short = h })))
  growth_refused (file.Short need reusable) h = absurd (omega (arith, h.1, h.2, room.blocks, reusable_are_left old.books new.books sound moves h.3))
  growth_refused (file.Scattered runs) h = inr (inl (record {
    accepted = accepted;
    room = room;
    node = node;
    grows = grows;
    enough = h.2;
    is = ap (λ r. because.Scattered r) {x = min runs (2 ^ 32 - 1)} {y = stretches (with_more (take (figures_on old f cmd).need (reusable_blocks new.books)))} (omega (arith, h.0, number_fits (figures_on old f cmd).need h.2));
    past = omega (arith, h.0, h.1);
  }))
