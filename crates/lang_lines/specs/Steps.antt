-- What the steps of a call do to a reader. Only proofs and private contracts speak of them.
use Rattle.std.specs.Prelude.{◌≡◌, ℕ, ◌<◌, ◌^◌, true, false, List, [], ◌∷◌, ◌++◌, Option}
use Rattle.std.specs.Io.KnownBytes.{Consumes, IsAtEnd, Keeps}
use Rattle.base_types.specs.Counts.{Rose}
use Rattle.lang_lines.specs.Reading.{ReaderState, HasGivenItems}
use Rattle.lang_lines.specs.declared.reader.Pulled.{Pulled}
use Rattle.lang_lines.specs.declared.reader.Pulled.TheVariants.{Bytes, Nothing, Fault, TooMany}

module _ {A : Type 0} (each : List ℕ → List A) where
  -- these items were given, and nothing was pulled
  pub record GoesOn (items_now : List A) (old new : ReaderState) : Type 0 where
    pub count : new.count ≡ old.count
    pub over : new.over ≡ old.over
    pub given : (seen : List ℕ) (items : List A) → HasGivenItems each seen items old → HasGivenItems each seen (items ++ items_now) new

  -- the input is over, and this is the item of the last line, if it is one
  pub record EndsWith (items_now : List A) (old new : ReaderState) : Type 0 where
    pub count : new.count ≡ old.count
    pub over : new.over ≡ true
    pub ahead : new.ahead ≡ []
    pub given : (seen : List ℕ) (items : List A) → HasGivenItems each seen items old → HasGivenItems each seen (items ++ items_now) new

  -- these bytes came, at least one
  pub record Came (old new : ReaderState) (left left_now : Option (List ℕ)) : Type 0 where
    pub more : List ℕ
    pub read : Consumes left left_now more
    pub some : old.count < new.count
    pub over : new.over ≡ false
    pub given : (seen : List ℕ) (items : List A) → HasGivenItems each seen items old → HasGivenItems each (seen ++ more) items new

  -- what a pull did; where no byte came that may stand in an input, the reader is as it was
  abbrev pub HasPulled : Pulled → ReaderState → ReaderState → Option (List ℕ) → Option (List ℕ) → ℕ → ℕ → Type 0
  HasPulled Bytes old new left left_now faults faults_now = Came old new left left_now
  HasPulled Nothing old new left left_now faults faults_now = (new ≡ old) × Consumes left left_now [] × IsAtEnd left_now
  HasPulled Fault old new left left_now faults faults_now = (new ≡ old) × Keeps left left_now × Rose faults faults_now
  HasPulled TooMany old new left left_now faults faults_now = (new ≡ old) × (old.count ≡ 2 ^ 30) × ((b : ℕ) × Consumes left left_now (b ∷ []))
