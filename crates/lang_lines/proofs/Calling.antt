-- What a call of a reader has pulled and given so far, and with which answer it ends.
use Rattle.std.proofs.Common.{◌≡◌, ◌⊎◌, inl, inr, ℕ, ◌-◌, ◌<◌, ◌≤◌, ◌^◌, true, false, List, [], ◌∷◌, ◌++◌, Option, Some, None, option_to_list, Result, Ok, Err, OnErr, refl, sym, ap, ◌∙◌, subst, arith, append_assoc, append-nil}
use Rattle.std.specs.Io.KnownBytes.{Consumes, IsAtEnd, Keeps}
use Rattle.std.proofs.KnownBytes.{Consumes-trans, Consumes-kept, Consumes-nil}
use Rattle.base_types.specs.Counts.{Rose}
use Rattle.lang_lines.specs.Lines.{longest, items_of_line, whole_items}
use Rattle.lang_lines.specs.Reading.{ReaderState, HasGivenItems, AsksLate, ReadsItem, HoldsItems}
use Rattle.lang_lines.specs.Steps.{GoesOn, EndsWith, Came}
use Rattle.lang_lines.specs.declared.next.NextItem.TheVariants.{Item, End, SourceFault, LongInput}
use Rattle.lang_lines.proofs.Giving.{gives_whole}

-- a call that found no memory
pub held : {T E : Type 0} (r : Result T E) (P : Type 0) → P → OnErr r P
held (Ok x) P p = tt
held (Err e) P p = p

-- fewer bytes may still be pulled
pub fewer_left : (first mid now : ℕ) → mid ≡ first → mid < now → now ≤ 2 ^ 30 → 2 ^ 30 - now < 2 ^ 30 - first
fewer_left first mid now is more most = omega arith

module _ {A : Type 0} (bad : A) (says : List ℕ → A) where
  abbrev each : List ℕ → List A
  each = items_of_line bad says longest

  -- nothing was pulled yet
  pub not_begun : (r : ReaderState) (left : Option (List ℕ)) → HoldsItems each r r left left
  not_begun r left = record {
    more = [];
    read = Consumes-nil left;
    given = λ seen items h. subst (λ (t : List ℕ). HasGivenItems each t items r) (sym (append-nil seen)) h;
    late = λ seen items h. inl refl;
    over = λ h. h;
  }

  -- no item is given, and nothing pulled
  pub still : (old mid new : ReaderState) (left now : Option (List ℕ)) → HoldsItems each old mid left now → GoesOn each [] mid new → HoldsItems each old new left now
  still old mid new left now h g = record {
    more = h.more;
    read = h.read;
    given = λ seen items k. subst (λ (cs : List A). HasGivenItems each (seen ++ h.more) cs new) (append-nil items) (g.given (seen ++ h.more) items (h.given seen items k));
    late = h.late;
    over = λ k o. h.over k (sym g.over ∙ o);
  }

  -- where all that was pulled is looked at, bytes may be asked for
  late_now : (old mid : ReaderState) (left now : Option (List ℕ)) (h : HoldsItems each old mid left now) → mid.over ≡ false → mid.ahead ≡ [] → (more : List ℕ) → AsksLate each old more
  late_now old mid left now h going none more seen items k = by (h.late seen items k)
    where
      by : (h.more ≡ []) ⊎ (items ≡ whole_items each seen) → (more ≡ []) ⊎ (items ≡ whole_items each seen)
      by (inr e) = inr e
      by (inl e) = inr (gives_whole bad says (seen ++ h.more) items mid (h.given seen items k) going none ∙ ap (λ t. whole_items each (seen ++ t)) e ∙ ap (whole_items each) (append-nil seen))

  -- bytes came
  pub more_came : (old mid new : ReaderState) (left now later : Option (List ℕ)) → HoldsItems each old mid left now → mid.over ≡ false → mid.ahead ≡ [] → Came each mid new now later → HoldsItems each old new left later
  more_came old mid new left now later h going none came = record {
    more = h.more ++ came.more;
    read = Consumes-trans left now later h.more came.more h.read came.read;
    given = λ seen items k. subst (λ (t : List ℕ). HasGivenItems each t items new) (append_assoc seen h.more came.more) (came.given (seen ++ h.more) items (h.given seen items k));
    late = late_now old mid left now h going none (h.more ++ came.more);
    over = λ k o. absurd (cc (came.over, o));
  }

  -- an item is given
  pub gives : (old mid new : ReaderState) (left now : Option (List ℕ)) (item : A) (found : Option A) (faults faults_now : ℕ) → HoldsItems each old mid left now → found ≡ Some item → GoesOn each (option_to_list found) mid new
      → ReadsItem each (Item item) old new left now faults faults_now
  gives old mid new left now item found faults faults_now h is g = record {
    more = h.more;
    read = h.read;
    given = λ seen items k. subst (λ (cs : List A). HasGivenItems each (seen ++ h.more) (items ++ cs) new) (ap option_to_list is) (g.given (seen ++ h.more) items (h.given seen items k));
    late = h.late;
    over = λ k o. h.over k (sym g.over ∙ o);
    ends = tt;
  }

  -- the input was over before
  pub ended : (old mid : ReaderState) (left now : Option (List ℕ)) (faults faults_now : ℕ) → HoldsItems each old mid left now → mid.over ≡ true → mid.ahead ≡ [] → ReadsItem each End old mid left now faults faults_now
  ended old mid left now faults faults_now h over none = record {
    more = h.more;
    read = h.read;
    given = λ seen items k. subst (λ (cs : List A). HasGivenItems each (seen ++ h.more) cs mid) (sym (append-nil items)) (h.given seen items k);
    late = h.late;
    over = h.over;
    ends = (over, none);
  }

  -- a pull that found the end of the input
  pub end_found : (old mid new : ReaderState) (left now later : Option (List ℕ)) → HoldsItems each old mid left now → (new ≡ mid) × Consumes now later [] × IsAtEnd later → HoldsItems each old new left later × IsAtEnd later
  end_found old mid new left now later h p = (subst (λ r. HoldsItems each old r left later) (sym p.0) same, p.2)
    where
      same : HoldsItems each old mid left later
      same = record {
        more = h.more;
        read = subst (λ (t : List ℕ). Consumes left later t) (append-nil h.more) (Consumes-trans left now later h.more [] h.read p.1);
        given = h.given;
        late = h.late;
        over = λ k o. p.2;
      }

  -- the last line says one
  pub last_is : (old mid new : ReaderState) (left now : Option (List ℕ)) (item : A) (found : Option A) (faults faults_now : ℕ) → HoldsItems each old mid left now × IsAtEnd now → found ≡ Some item
      → EndsWith each (option_to_list found) mid new → ReadsItem each (Item item) old new left now faults faults_now
  last_is old mid new left now item found faults faults_now h is g = record {
    more = h.0.more;
    read = h.0.read;
    given = λ seen items k. subst (λ (cs : List A). HasGivenItems each (seen ++ h.0.more) (items ++ cs) new) (ap option_to_list is) (g.given (seen ++ h.0.more) items (h.0.given seen items k));
    late = h.0.late;
    over = λ k o. h.1;
    ends = tt;
  }

  -- or it is none
  pub last_is_none : (old mid new : ReaderState) (left now : Option (List ℕ)) (found : Option A) (faults faults_now : ℕ) → HoldsItems each old mid left now × IsAtEnd now → found ≡ None
      → EndsWith each (option_to_list found) mid new → ReadsItem each End old new left now faults faults_now
  last_is_none old mid new left now found faults faults_now h is g = record {
    more = h.0.more;
    read = h.0.read;
    given = λ seen items k. subst (λ (cs : List A). HasGivenItems each (seen ++ h.0.more) (items ++ cs) new) (ap option_to_list is) (g.given (seen ++ h.0.more) items (h.0.given seen items k));
    late = h.0.late;
    over = λ k o. h.1;
    ends = (g.over, g.ahead);
  }

  -- the source failed
  pub failed : (old mid new : ReaderState) (left now later : Option (List ℕ)) (first faults faults_now : ℕ) → HoldsItems each old mid left now → mid.over ≡ false → mid.ahead ≡ [] → first ≤ faults
      → (new ≡ mid) × Keeps now later × Rose faults faults_now → ReadsItem each SourceFault old new left later first faults_now
  failed old mid new left now later first faults faults_now h going none le p = subst (λ r. ReadsItem each SourceFault old r left later first faults_now) (sym p.0) same
    where
      rose : Rose first faults_now
      rose = omega (arith, le, p.2)

      same : ReadsItem each SourceFault old mid left later first faults_now
      same = record {
        more = h.more;
        read = Consumes-kept left now later h.more h.read p.1;
        given = λ seen items k. subst (λ (cs : List A). HasGivenItems each (seen ++ h.more) cs mid) (sym (append-nil items)) (h.given seen items k);
        late = h.late;
        over = λ k o. absurd (cc (going, o));
        ends = (rose, going, none);
      }

  -- one byte too many came
  pub too_many : (old mid new : ReaderState) (left now later : Option (List ℕ)) (faults faults_now : ℕ) → HoldsItems each old mid left now → mid.over ≡ false → mid.ahead ≡ []
      → (new ≡ mid) × (mid.count ≡ 2 ^ 30) × ((b : ℕ) × Consumes now later (b ∷ [])) → ReadsItem each LongInput old new left later faults faults_now
  too_many old mid new left now later faults faults_now h going none p = subst (λ r. ReadsItem each LongInput old r left later faults faults_now) (sym p.0) same
    where
      same : ReadsItem each LongInput old mid left later faults faults_now
      same = record {
        more = h.more;
        read = (p.2.0, Consumes-trans left now later h.more (p.2.0 ∷ []) h.read p.2.1);
        given = λ seen items k. subst (λ (cs : List A). HasGivenItems each (seen ++ h.more) cs mid) (sym (append-nil items)) (h.given seen items k);
        late = h.late;
        over = λ k o. absurd (cc (going, o));
        ends = (p.1, going, none);
      }

  -- no whole line was left
  pub none_left : (old mid new : ReaderState) (left now : Option (List ℕ)) (found : Option A) → HoldsItems each old mid left now → found ≡ None → GoesOn each (option_to_list found) mid new → HoldsItems each old new left now
  none_left old mid new left now found h is g = still old mid new left now h (subst (λ (cs : List A). GoesOn each cs mid new) (ap option_to_list is) g)

  -- the reader is as it was
  pub same_reader : (old mid new : ReaderState) (left now : Option (List ℕ)) → HoldsItems each old mid left now → new ≡ mid → HoldsItems each old new left now
  same_reader old mid new left now h e = subst (λ r. HoldsItems each old r left now) (sym e) h
