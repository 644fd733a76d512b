-- What is kept in memory of a log, over an append, a new segment and a trim.
use Rattle.std.proofs.Common.{◌≡◌, ◌≢◌, ◌⊎◌, inl, inr, ⊎_elim, ℕ, ◌+◌, ◌-◌, ◌^◌, ◌<◌, ◌≤◌, List, [], ◌∷◌, ◌++◌, length, map, drop, slice_get, get_or, Some, false, refl, sym, ◌∙◌, ap, subst, arith}
use Rattle.std.proofs.lemmas.List.{length-append, length-drop, length-map, map-append}
use Rattle.std.proofs.lemmas.Option.{same_Some}
use Rattle.std.specs.List.{remove}
use Rattle.std.proofs.lemmas.Grind.{flat_map-append}
use Rattle.lang_tree.specs.declared.command.Cmd.{Cmd}
use Rattle.lang_tree.specs.declared.command.Cmd.TheVariants.{Create, Unlink, Write}
use Rattle.lang_tree.specs.declared.command.Reply.{Reply}
use Rattle.lang_tree.specs.declared.command.Reply.TheVariants.{Ok as Done}
use Rattle.lang_log.specs.Names.{segment_name, segment_path}
use Rattle.lang_log.specs.Spelling.{IsShort, spelling, spellings}
use Rattle.lang_log.specs.Segments.{Segment, appends_in, grown, new_segment}
use Rattle.lang_log.specs.Log.{Log, IsMadeOf, next_of, trimmed, with_append}
use Rattle.lang_log.specs.History.{History, appended, trimmed_to}
use Rattle.engine_blocks.specs.State.{State}
use Rattle.fs_log.specs.Keeping.{HoldsLog, TakesLog, as_before}
use Rattle.fs_log.specs.Asked.{Comes, IsLate, MayMake, MayWrite}
use Rattle.fs_log.specs.Causes.{AsksToAppend, AsksToMake, AsksToWrite, MakesRoom, has_room}
use Rattle.fs_log.specs.Open.{Mirrors, Open, second_of, size_of}
use Rattle.fs_log.proofs.Mirroring.{mirrors_over}
use Rattle.fs_log.proofs.Rows.{EndsWith, ending, first_last, next_is_free, size_last}
use Rattle.fs_log.proofs.Windows.{get_mid}

abbrev firsts_of : List Segment → List ℕ
firsts_of segments = map (λ (s : Segment). s.first) segments

-- the first of some numbers
pub first_of_all : (numbers : List ℕ) (n : ℕ) → 2 ≤ length numbers → n ≡ get_or numbers 0 n → slice_get numbers 0 ≡ Some n
first_of_all [] n two is = absurd (omega (arith, two))
first_of_all (a ∷ numbers) n two is = ap (λ (q : ℕ). Some q) (sym is)

-- the first of some numbers taken out
pub one_less : (numbers : List ℕ) → remove numbers 0 ≡ drop 1 numbers
one_less [] = refl
one_less (n ∷ numbers) = refl

-- What a command that changes a file of the log made of the blocks and of what is kept in memory: it was done, and the log changed so; or it was refused, and all is as it was.
pub record Made (change : History → History) (firsts : List ℕ) (size next : ℕ) (later : List ℕ) (later_size later_next : ℕ) (reply : Reply) (old new : State) : Type 0 where
  pub mirrors : reply ≡ Done → Mirrors new later later_size later_next
  pub takes : reply ≡ Done → TakesLog change old new
  pub same : reply ≢ Done → Mirrors new firsts size next
  pub rests : reply ≢ Done → TakesLog as_before old new
  pub late : reply ≢ Done → IsLate reply

module _ {S : Type 0} (state : S → State) (firsts : List ℕ) (size next : ℕ) (old new : S) (reply : Reply) (m : Mirrors (state old) firsts size next) where
  -- The write of an append.
  module _ (first : ℕ) (bytes : List ℕ) (cmd : Cmd) (some : 0 < length firsts) (is_last : slice_get firsts (length firsts - 1) ≡ Some first) (is : cmd ≡ Write (segment_path first) size (spelling bytes))
      (short : IsShort bytes) (fits : size + (4 + length bytes) ≤ 2 ^ 30) (left : next < 4294967295)
      (written : (before : List Segment) (s : Segment) (l : Log) (bytes : List ℕ) → HoldsLog (before ++ s ∷ []) l (state old) → MayWrite l s bytes cmd
      → Comes state (appended bytes) (λ _. before ++ grown bytes s ∷ []) (with_append bytes l) reply old new) where
    e : EndsWith m.segments
    e = ending m.segments (omega (arith, some, ap (λ (q : List ℕ). length q) m.firsts_are, length-map m.segments (λ (s : Segment). s.first)))

    firsts_end : firsts ≡ firsts_of (e.before ++ e.last ∷ [])
    firsts_end = m.firsts_are ∙ ap firsts_of e.is

    first_is : first ≡ e.last.first
    first_is = same_Some first e.last.first (sym is_last ∙ (ap (λ (q : List ℕ). slice_get q (length q - 1)) firsts_end ∙ first_last e.before e.last))

    size_is : size ≡ length (spellings e.last.appends)
    size_is = m.size_is ∙ (ap size_of e.is ∙ size_last e.before e.last)

    spelled : length (spelling bytes) ≡ 4 + length bytes
    spelled = omega arith

    may : MayWrite m.log e.last bytes cmd
    may = record {
      is = is ∙ (ap (λ (n : ℕ). Write (segment_path n) size (spelling bytes)) first_is ∙ ap (λ (n : ℕ). Write (segment_path e.last.first) n (spelling bytes)) size_is);
      short = short;
      fits = omega (arith, fits, size_is, spelled);
      left = omega (arith, left, m.next_is);
    }

    c : Comes state (appended bytes) (λ _. e.before ++ grown bytes e.last ∷ []) (with_append bytes m.log) reply old new
    c = written e.before e.last m.log bytes (subst (λ (q : List Segment). HoldsLog q m.log (state old)) e.is m.holds) may

    size_then : size + (4 + length bytes) ≡ size_of (e.before ++ grown bytes e.last ∷ [])
    size_then = omega (
      arith,
      size_is,
      spelled,
      size_last e.before (grown bytes e.last),
      ap (λ (q : List ℕ). length q) (flat_map-append spelling e.last.appends (bytes ∷ [])),
      length-append (spellings e.last.appends) (spellings (bytes ∷ [])),
      length-append (spelling bytes) [],
    )

    pub wrote : Made (appended bytes) firsts size next firsts (size + (4 + length bytes)) (next + 1) reply (state old) (state new)
    wrote = record {
      mirrors = λ done. record {
        segments = e.before ++ grown bytes e.last ∷ [];
        log = with_append bytes m.log;
        holds = (c.holds done).1;
        firsts_are = firsts_end ∙ (map-append (λ (s : Segment). s.first) e.before (e.last ∷ []) ∙ sym (map-append (λ (s : Segment). s.first) e.before (grown bytes e.last ∷ [])));
        size_is = size_then;
        next_is = omega (arith, m.next_is, length-append m.log.appends (bytes ∷ []));
      };
      takes = c.goes;
      same = λ not. mirrors_over (state old) (state new) firsts size next (c.rests not).holds m;
      rests = λ not. (c.rests not).takes;
      late = c.late;
    }

  -- A new segment.
  module _ (cmd : Cmd) (used : (firsts ≡ []) ⊎ (0 < size)) (is : cmd ≡ Create (segment_path next)) (apart : (n m : ℕ) → n < 2 ^ 32 → m < 2 ^ 32 → segment_name n ≡ segment_name m → n ≡ m)
      (made : (segments : List Segment) (l : Log) → HoldsLog segments l (state old) → MayMake segments l cmd
      → Comes state as_before (λ node. segments ++ new_segment (next_of l) node ∷ []) l reply old new) where
    none_or_used : (m.segments ≡ []) ⊎ (0 < size_of m.segments)
    none_or_used = ⊎_elim (λ none. inl (nothing m.segments (sym m.firsts_are ∙ none))) (λ some. inr (omega (arith, some, m.size_is))) used
      where
        nothing : (segments : List Segment) → firsts_of segments ≡ [] → segments ≡ []
        nothing [] none = refl
        nothing (s ∷ segments) none = absurd cc

    n : Comes state as_before (λ node. m.segments ++ new_segment (next_of m.log) node ∷ []) m.log reply old new
    n = made m.segments m.log m.holds (record {
      is = is ∙ ap (λ (k : ℕ). Create (segment_path k)) m.next_is;
      free = next_is_free apart m.segments m.log m.holds.made none_or_used;
    })

    pub began : Made as_before firsts size next (firsts ++ next ∷ []) 0 next reply (state old) (state new)
    began = record {
      mirrors = λ done. let h = n.holds done in record {
        segments = m.segments ++ new_segment (next_of m.log) h.0 ∷ [];
        log = m.log;
        holds = h.1;
        firsts_are = ap (λ (q : List ℕ). q ++ next ∷ []) m.firsts_are ∙ (ap (λ (k : ℕ). firsts_of m.segments ++ k ∷ []) m.next_is ∙ sym (map-append (λ (s : Segment). s.first) m.segments (new_segment (next_of m.log) h.0 ∷ [])));
        size_is = sym (size_last m.segments (new_segment (next_of m.log) h.0));
        next_is = m.next_is;
      };
      takes = n.goes;
      same = λ not. mirrors_over (state old) (state new) firsts size next (n.rests not).holds m;
      rests = λ not. (n.rests not).takes;
      late = n.late;
    }

  -- The first segment goes.
  module _ (first : ℕ) (cmd : Cmd) (two : 2 ≤ length firsts) (is_first : slice_get firsts 0 ≡ Some first) (is : cmd ≡ Unlink (segment_path first))
      (gone : (s r : Segment) (rest : List Segment) (l : Log) → HoldsLog (s ∷ r ∷ rest) l (state old) → cmd ≡ Unlink (segment_path s.first)
      → Comes state (trimmed_to r.first) (λ _. r ∷ rest) (trimmed r.first l) reply old new) where
    next_stays : (s r : Segment) (rest : List Segment) (l : Log) → IsMadeOf (s ∷ r ∷ rest) l → next_of (trimmed r.first l) ≡ next_of l
    next_stays s r rest l made = omega (arith, made.row.0, made.row.1.0, ap (λ (q : List (List ℕ)). length q) made.appends, length-append s.appends (appends_in (r ∷ rest)), length-drop (r.first - l.low) l.appends)

    pub went : Made (trimmed_to (second_of firsts)) firsts size next (drop 1 firsts) size next reply (state old) (state new)
    went = by m.segments m.holds m.firsts_are m.size_is
      where
        by : (segments : List Segment) → HoldsLog segments m.log (state old) → firsts ≡ firsts_of segments → size ≡ size_of segments → Made (trimmed_to (second_of firsts)) firsts size next (drop 1 firsts) size next reply (state old) (state new)
        by [] holds firsts_are size_is = absurd (omega (arith, two, ap (λ (q : List ℕ). length q) firsts_are))
        by (s ∷ []) holds firsts_are size_is = absurd (omega (arith, two, ap (λ (q : List ℕ). length q) firsts_are))
        by (s ∷ r ∷ rest) holds firsts_are size_is =
            let first_is : first ≡ s.first = same_Some first s.first (sym is_first ∙ ap (λ (q : List ℕ). slice_get q 0) firsts_are) in
            let second_is : second_of firsts ≡ r.first = ap second_of firsts_are in
            let c = gone s r rest m.log holds (is ∙ ap (λ (k : ℕ). Unlink (segment_path k)) first_is) in record {
              mirrors = λ done. record {
                segments = r ∷ rest;
                log = trimmed r.first m.log;
                holds = (c.holds done).1;
                firsts_are = ap (λ (q : List ℕ). drop 1 q) firsts_are;
                size_is = size_is;
                next_is = m.next_is ∙ sym (next_stays s r rest m.log holds.made);
              };
              takes = λ done. subst (λ (k : ℕ). TakesLog (trimmed_to k) (state old) (state new)) (sym second_is) (c.goes done);
              same = λ not. mirrors_over (state old) (state new) firsts size next (c.rests not).holds m;
              rests = λ not. (c.rests not).takes;
              late = c.late;
            }

-- Which commands an append asks.
module _ {S : Type 0} (bytes : List ℕ) (old mid : Open S) where
  last_is_new : (firsts : List ℕ) (next first : ℕ) → slice_get (firsts ++ next ∷ []) (length (firsts ++ next ∷ []) - 1) ≡ Some first → first ≡ next
  last_is_new firsts next first last =
      same_Some first next (sym last ∙ (ap (λ (n : ℕ). slice_get (firsts ++ next ∷ []) n) (omega (arith, length-append firsts (next ∷ []))) ∙ get_mid firsts next []))

  -- the write behind what there is, or at the front of a new segment
  pub writes_so : MakesRoom (4 + length bytes) old mid → (cmd : Cmd) → AsksToWrite mid bytes cmd → AsksToAppend old bytes cmd
  writes_so room cmd (inr is) = inr (inr is)
  writes_so (inl (room, firsts, size)) cmd (inl w) = inl (
    room,
    record {
      first = w.first;
      last = subst (λ (q : List ℕ). slice_get q (length q - 1) ≡ Some w.first) firsts w.last;
      is = w.is ∙ ap (λ (n : ℕ). Write (segment_path w.first) n (spelling bytes)) size;
    },
  )
  writes_so (inr (none, firsts, size)) cmd (inl w) =
      let first = last_is_new old.firsts old.next w.first (subst (λ (q : List ℕ). slice_get q (length q - 1) ≡ Some w.first) firsts w.last) in
      inr (inl (none, inr (w.is ∙ (ap (λ (n : ℕ). Write (segment_path n) mid.size (spelling bytes)) first ∙ ap (λ (n : ℕ). Write (segment_path old.next) n (spelling bytes)) size))))

  -- the making of a segment where there is no room
  pub makes_so : has_room old (4 + length bytes) ≡ false → (cmd : Cmd) → AsksToMake old cmd → AsksToAppend old bytes cmd
  makes_so none cmd (inl is) = inr (inl (none, inl is))
  makes_so none cmd (inr is) = inr (inr is)
