-- Two disks that are compared: what reading changes of them, and what is known of their blocks, one block after the other.
use Rattle.std.proofs.Common.{◌≡◌, ◌⊎◌, inl, inr, ℕ, ◌+◌, ◌<◌, Bool, true, false, IsTrue, ◌&&◌, Ok, refl, sym, ap, ◌∙◌, subst, arith}
use Rattle.std.proofs.lemmas.Bool.{cases_eq, false≢true}
use Rattle.base_types.specs.Counts.{after_call}
use Rattle.base_types.specs.Seal.{Blocks}
use Rattle.disk_contract.specs.Disk.{OnlyReads, State}
use Rattle.cmd_mirror.specs.Comparing.{AreOnlyRead, Compares, ComparesBlock, ComparedBelow}

-- What reading changes.

-- a disk that was only read, and read once more
pub reads_on : (failed : Bool) (a b c : State) → OnlyReads false a b → OnlyReads failed b c → OnlyReads failed a c
reads_on failed a b c x y = record {
  same = record { blocks = y.same.blocks ∙ x.same.blocks; base = y.same.base ∙ x.same.base; manner = y.same.manner ∙ x.same.manner };
  faults = y.faults ∙ x.faults;
  read_faults = y.read_faults ∙ ap (after_call failed) x.read_faults;
  waits = y.waits ∙ x.waits;
  polls = y.polls ∙ x.polls;
}

-- a disk that wasn't touched
pub untouched : (s : State) → OnlyReads false s s
untouched s = record { same = record { blocks = refl; base = refl; manner = refl }; faults = refl; read_faults = refl; waits = refl; polls = refl }

-- two disks that were only read, and read once more
pub both_on : (tells fu su : Bool) (a b c x y z : State) → AreOnlyRead tells false false a b x y → AreOnlyRead tells fu su b c y z → AreOnlyRead tells fu su a c x z
both_on tells fu su a b c x y z before now = record {
  reads_first = reads_on fu a b c before.reads_first now.reads_first;
  reads_second = reads_on su x y z before.reads_second now.reads_second;
  log_first = λ t. now.log_first t ∙ before.log_first t;
  log_second = λ t. now.log_second t ∙ before.log_second t;
}

pub neither : (tells : Bool) (a x : State) → AreOnlyRead tells false false a a x x
neither tells a x = record { reads_first = untouched a; reads_second = untouched x; log_first = λ t. refl; log_second = λ t. refl }

-- All blocks.

module _ (tells : Bool) (b : ℕ) (a now c x y z : State) where
  -- no read failed so far
  calm : (alike fu su : Bool) → fu ≡ false → su ≡ false → ComparedBelow tells b alike a now x y → AreOnlyRead tells fu su now c y z → AreOnlyRead tells false false a c x z
  calm alike false false p q below reads = both_on tells false false a now c x y z below.reads reads
  calm alike true su p q below reads = absurd (false≢true (sym p))
  calm alike false true p q below reads = absurd (false≢true (sym q))

  first_is : (alike : Bool) → ComparedBelow tells b alike a now x y → now.base b ≡ a.base b
  first_is alike below = ap (λ (at : Blocks). at b) below.reads.reads_first.same.base

  second_is : (alike : Bool) → ComparedBelow tells b alike a now x y → y.base b ≡ x.base b
  second_is alike below = ap (λ (at : Blocks). at b) below.reads.reads_second.same.base

  all : ComparedBelow tells b true a now x y → IsTrue tells → y.base b ≡ now.base b → (i : ℕ) → i < b + 1 → x.base i ≡ a.base i
  all below t is i low = by (cases_eq i b)
    where
      here : x.base b ≡ a.base b
      here = sym (second_is true below) ∙ is ∙ first_is true below

      by : (i ≡ b) ⊎ (i ≡ b → ⊥) → x.base i ≡ a.base i
      by (inl same) = subst (λ k. x.base k ≡ a.base k) (sym same) here
      by (inr other) = below.same refl t i (omega (arith, low, other))

  -- one block more
  step : {E : Type 0} (alike same : Bool) → b < a.blocks → ComparedBelow tells b alike a now x y → ComparesBlock {E = E} tells b (Ok same) now c y z → ComparedBelow tells (b + 1) (alike && same) a c x z
  step true true there below one = record {
    reads = calm true one.first_unread one.second_unread one.says.0.0 one.says.0.1 below one.reads;
    same = λ is t. all below t (one.says.1 t);
    differs = λ is. absurd (false≢true (sym is));
  }
  step true false there below one = record {
    reads = calm true one.first_unread one.second_unread one.says.0.0 one.says.0.1 below one.reads;
    same = λ is. absurd (false≢true is);
    differs = λ is t. record { block = b; there = there; differs = λ back. one.says.1 t (second_is true below ∙ back ∙ sym (first_is true below)) };
  }
  step false true there below one = record {
    reads = calm false one.first_unread one.second_unread one.says.0.0 one.says.0.1 below one.reads;
    same = λ is. absurd (false≢true is);
    differs = below.differs;
  }
  step false false there below one = record {
    reads = calm false one.first_unread one.second_unread one.says.0.0 one.says.0.1 below one.reads;
    same = λ is. absurd (false≢true is);
    differs = below.differs;
  }

pub one_more : {E : Type 0} (tells : Bool) (b : ℕ) (alike same both : Bool) (a now c x y z : State) → both ≡ (alike && same) → b < a.blocks → ComparedBelow tells b alike a now x y → ComparesBlock {E = E} tells b (Ok same) now c y z → ComparedBelow tells (b + 1) both a c x z
one_more tells b alike same both a now c x y z is there below one = subst (λ (t : Bool). ComparedBelow tells (b + 1) t a c x z) (sym is) (step tells b a now c x y z alike same there below one)

-- no block yet
pub none_yet : (tells : Bool) (a x : State) → ComparedBelow tells 0 true a a x x
none_yet tells a x = record {
  reads = neither tells a x;
  same = λ is t i low. absurd (omega (arith, low));
  differs = λ is. absurd (false≢true (sym is));
}

-- all blocks were compared
pub compared : {E : Type 0} (tells : Bool) (n : ℕ) (alike : Bool) (a now x y : State) → x.blocks ≡ a.blocks → n ≡ a.blocks → ComparedBelow tells n alike a now x y → Compares {E = E} tells (Ok alike) a now x y
compared tells n true a now x y size whole below = record {
  first_unread = false;
  second_unread = false;
  reads = below.reads;
  says = ((refl, refl), record { size = size; same = λ t b low. below.same refl t b (omega (arith, low, whole)) });
}
compared tells n false a now x y size whole below = record {
  first_unread = false;
  second_unread = false;
  reads = below.reads;
  says = ((refl, refl), inr (size, below.differs refl));
}
