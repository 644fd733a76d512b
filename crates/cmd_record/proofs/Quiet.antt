-- A disk without events, whatever its blocks are: each crash leaves it as it was.
use Rattle.std.proofs.Common.{◌≡◌, inl, inr, ℕ, ◌<◌, List, [], take, take_all, refl, sym, subst, arith}
use Rattle.base_types.specs.Seal.{Blocks}
use Rattle.disk_contract.specs.declared.event.Event.{Event}
use Rattle.disk_contract.specs.Cell.{cell_of}
use Rattle.disk_contract.specs.Crash.{IsHonest, MayHold}
use Rattle.cmd_session.specs.Crashes.{IsCrashConsistent}
use Rattle.crash_stands.specs.Stands.{StandsFor}
use Rattle.lang_tree.specs.declared.command.Cmd.{Cmd}
use Rattle.lang_tree.specs.declared.command.Reply.{Reply}
use Rattle.lang_tree.specs.Points.{floor}
use Rattle.lang_tree.specs.Tree.{Bounds, Tree}

-- images that are alike below the number of blocks stand for the same
abbrev pub StandsAlike : Type 0
StandsAlike = (n : ℕ) (img other : Blocks) (t : Tree) → ((b : ℕ) → b < n → img b ≡ other b) → StandsFor n img t → StandsFor n other t

-- a crash leaves each block as it was
untouched : (n : ℕ) (base img : Blocks) → IsHonest n base [] img → (b : ℕ) → b < n → img b ≡ base b
untouched n base img honest b below = left (honest.leaves b below)
  where
    left : MayHold (cell_of base [] b) (img b) → img b ≡ base b
    left (inl is) = is
    left (inr (inl none)) = absurd none
    left (inr (inr torn)) = absurd (omega (arith, torn.0))

-- after a front of no events the image is one after none
at_rest : (n k : ℕ) (base img : Blocks) → IsHonest n base (take k []) img → IsHonest n base [] img
at_rest n k base img honest = subst (λ (l : List Event). IsHonest n base l img) (take_all k [] (omega arith)) honest

pub consistent : StandsAlike → (n : ℕ) (limit : Bounds) (base : Blocks) (cmds : List Cmd) (replies : List Reply) (marks : List ℕ)
    → ((k : ℕ) → floor k replies marks ≡ 0) → IsCrashConsistent n limit base [] 0 cmds replies marks
consistent alike n limit base cmds replies marks low = record {
  points = λ t stands. record {
    each = λ k img within honest.
        let same = untouched n base img (at_rest n k base img honest) in
        ∣ record {
          number = 0;
          point = record { tree = t; begun = 0 };
          from = omega (arith, low k);
          upto = omega arith;
          is = refl;
          stands = alike n base img t (λ b below. sym (same b below)) stands;
        } ∣₁;
  };
  none = λ no_tree. record {
    each = λ k img within honest t stands. no_tree t (alike n img base t (untouched n base img (at_rest n k base img honest)) stands);
  };
}
