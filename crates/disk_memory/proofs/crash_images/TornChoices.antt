-- The choice that makes a torn image is made of what is said of each of its blocks.
use Rattle.std.proofs.Common.{◌≡◌, ⊎_elim, ℕ, zero, suc, ◌<◌, true, false, IsTrue, if◌then◌else◌, List, [], ◌∷◌, ◌++◌, Option, refl, sym, ◌∙◌, ap, subst, arith}
use Rattle.std.proofs.lemmas.Bool.{and_from, cases_Bool, cases_eq}
use Rattle.std.specs.List.{list_all}
use Rattle.base_types.specs.Seal.{Blocks}
use Rattle.disk_contract.specs.declared.event.Event.{Event}
use Rattle.disk_contract.specs.Cell.{cell_of}
use Rattle.disk_contract.specs.Lawful.{IsLawful}
use Rattle.disk_memory.specs.declared.choice.Fate.{Fate}
use Rattle.disk_memory.specs.declared.choice.Named.{Named}
use Rattle.disk_memory.specs.Choice.{ChoiceState, NamedWrite, same_name, joined, said_of, said_at_first, pending_writes, chosen, is_pending}
use Rattle.disk_memory.specs.Torn.{IsTornInFront}
use Rattle.disk_memory.proofs.crash_images.ChosenImages.{PendingIsTold}
use Rattle.disk_memory.proofs.crash_images.FatePending.{same_name-true}
use Rattle.disk_memory.proofs.crash_images.TornNames.{IsIn, one_pending, name_pending}
use Rattle.disk_memory.proofs.crash_images.TornLeft.{only, left_same}
use Rattle.disk_memory.proofs.crash_images.TornEntries.{AreNames, Entry, entry}
use Rattle.disk_memory.proofs.crash_images.FateSaid.{said-append}

-- names of writes to other blocks say nothing of a pending write
said_other : (log : List Event) (P : ℕ → Type 0) (ms : List Named) (w : NamedWrite) (before : Option Fate) → IsLawful log → AreNames log P ms → IsIn w (pending_writes log) → ¬ P w.block → said_of ms w.name before ≡ before
said_other log P [] w before lawful names i other = refl
said_other log P (m ∷ ms) w before lawful (v, k, is, at, rest) i other =
    let apart : same_name m.write w.name ≡ true → ⊥ = λ same. other (subst P (ap (λ (u : NamedWrite). u.block) (one_pending log v w lawful k i (sym is ∙ same_name-true m.write w.name same))) at) in
    ⊎_elim (λ same. absurd (apart same)) (λ differ. ap (λ v. said_of ms w.name (if v then joined before m.fate else before)) differ) (cases_Bool (same_name m.write w.name))
    ∙ said_other log P ms w before lawful rest i other

-- names of writes to some blocks are such of more blocks
names_weaker : (log : List Event) (P Q : ℕ → Type 0) (ms : List Named) → ((d : ℕ) → P d → Q d) → AreNames log P ms → AreNames log Q ms
names_weaker log P Q [] more names = tt
names_weaker log P Q (m ∷ ms) more (w, i, is, at, rest) = (w, i, is, more w.block at, names_weaker log P Q ms more rest)

-- two lists of such names are one
names_append : (log : List Event) (P : ℕ → Type 0) (xs ys : List Named) → AreNames log P xs → AreNames log P ys → AreNames log P (xs ++ ys)
names_append log P [] ys first second = second
names_append log P (x ∷ xs) ys (w, i, is, at, rest) second = (w, i, is, at, names_append log P xs ys rest second)

-- they are all names of pending writes
names_pending : (log : List Event) (P : ℕ → Type 0) (ms : List Named) → AreNames log P ms → list_all (λ m. is_pending log m.write) ms ≡ true
names_pending log P [] names = refl
names_pending log P (m ∷ ms) (w, i, is, at, rest) = and_from _ _ (ap (is_pending log) is ∙ name_pending log w i) (names_pending log P ms rest)

module _ (base : Blocks) (log : List Event) (img : Blocks) (lawful : IsLawful log) where
  -- what is said of the first n blocks, which leaves them as they are in the image
  record Makes (n : ℕ) : Type 0 where
    pub named : List Named
    pub own : AreNames log (λ d. d < n) named
    pub makes : (b : ℕ) → b < n → chosen (only named) base log b ≡ img b

  -- one block more leaves the blocks before as they are
  earlier_stay : (n b : ℕ) (m : Makes n) (e : Entry log n (cell_of base log n).settled (img n)) → b < n → chosen (only (m.named ++ e.named)) base log b ≡ img b
  earlier_stay n b m e within =
      left_same (only (m.named ++ e.named)) (only m.named) b (cell_of base log b).settled (cell_of base log b).settled (pending_writes log)
      (λ w i own. said-append m.named e.named w.name (said_at_first false w.name) ∙ said_other log (λ d. d ≡ n) e.named w (said_of m.named w.name (said_at_first false w.name)) lawful e.own i (λ last. absurd (omega (arith, own, last))))
      ∙ m.makes b within

  -- and what is said of those before says nothing of it
  last_made : (n : ℕ) (m : Makes n) (e : Entry log n (cell_of base log n).settled (img n)) → chosen (only (m.named ++ e.named)) base log n ≡ img n
  last_made n m e =
      left_same (only (m.named ++ e.named)) (only e.named) n (cell_of base log n).settled (cell_of base log n).settled (pending_writes log)
      (λ w i own. said-append m.named e.named w.name (said_at_first false w.name) ∙ ap (said_of e.named w.name) (said_other log (λ d. d < n) m.named w (said_at_first false w.name) lawful m.own i (λ early. absurd (omega (arith, own, early)))))
      ∙ e.makes

  -- what is said of one block more
  makes_more : (n : ℕ) → Makes n → Entry log n (cell_of base log n).settled (img n) → Makes (suc n)
  makes_more n m e = record {
    named = m.named ++ e.named;
    own = names_append log (λ d. d < suc n) m.named e.named (names_weaker log (λ d. d < n) (λ d. d < suc n) m.named (λ d h. omega arith) m.own) (names_weaker log (λ d. d ≡ n) (λ d. d < suc n) e.named (λ d h. omega arith) e.own);
    makes = λ b within. ⊎_elim (λ last. subst (λ d. chosen (only (m.named ++ e.named)) base log d ≡ img d) (sym last) (last_made n m e)) (λ other. earlier_stay n b m e (omega (arith, other))) (cases_eq b n);
  }

  -- so there is a choice for all blocks
  makes_all : (n : ℕ) → ((b : ℕ) → b < n → Entry log b (cell_of base log b).settled (img b)) → Makes n
  makes_all zero entries = record { named = []; own = tt; makes = λ b within. absurd (omega arith) }
  makes_all (suc n) entries = makes_more n (makes_all n (λ b within. entries b (omega arith))) (entries n (omega arith))

-- each torn image is the one of a choice, which names pending writes alone
pub choice_of_torn : PendingIsTold
    → (n : ℕ) (base : Blocks) (log : List Event) (img : Blocks) → IsLawful log → IsTornInFront n base log img
    → (c : ChoiceState) × IsTrue (list_all (λ m. is_pending log m.write) c.named) × ((b : ℕ) → b < n → chosen c base log b ≡ img b)
choice_of_torn cells n base log img lawful torn =
    let m = makes_all base log img lawful n (λ b within. entry log b (cell_of base log b) (img b) lawful (cells base log b lawful) (torn.torn b within)) in
    (only m.named, names_pending log (λ d. d < n) m.named m.own, m.makes)
