-- What was asked of the file system in a row: nothing, one command, and more behind it.
use Rattle.std.proofs.Common.{◌≡◌, ◌⊎◌, inl, inr, ⊎_elim, Bool, List, [], ◌∷◌, ◌++◌, refl, sym, ap, ◌∙◌, subst}
use Rattle.std.proofs.lemmas.List.{append_assoc}
use Rattle.lang_tree.specs.declared.command.Cmd.{Cmd}
use Rattle.lang_tree.specs.declared.command.Reply.{Reply}
use Rattle.engine_blocks.specs.State.{State}
use Rattle.fs_session.specs.Applying.{Applies}
use Rattle.fs_log.specs.Ways.{AnswersAll, IsQuestion, Way, WayTo}

module _ {S : Type 0} (tells : Bool) (state : S → State) where
  all_later : (cmds : Cmd → Type 0) (asked later : List (Cmd × Reply)) (old mid new : S) → AnswersAll tells state cmds asked old mid → AnswersAll tells state cmds later mid new → AnswersAll tells state cmds (asked ++ later) old new
  all_later cmds [] later old mid new is all = subst (λ (s : S). AnswersAll tells state cmds later s new) is all
  all_later cmds (one ∷ asked) later old mid new first all = (first.0, first.1, first.2, all_later cmds asked later first.0 mid new first.3 all)

  all_of : (cmds others : Cmd → Type 0) → ((c : Cmd) → cmds c → others c) → (asked : List (Cmd × Reply)) (old new : S) → AnswersAll tells state cmds asked old new → AnswersAll tells state others asked old new
  all_of cmds others widens [] old new is = is
  all_of cmds others widens (one ∷ asked) old new all = (all.0, widens one.0 all.1, all.2, all_of cmds others widens asked all.0 new all.3)

  module _ (cmds : Cmd → Type 0) where
    pub asks_nothing : (s : S) → Way tells state cmds s s
    asks_nothing s = record { asked = []; answered = refl }

    pub asks_one : (cmd : Cmd) (reply : Reply) (old new : S) → cmds cmd ⊎ IsQuestion cmd → Applies tells state cmd reply old new → Way tells state cmds old new
    asks_one cmd reply old new is applies = record { asked = (cmd, reply) ∷ []; answered = (new, is, applies, refl) }

    -- the way goes on
    pub asks_later : (old mid new : S) → Way tells state cmds old mid → Way tells state cmds mid new → Way tells state cmds old new
    asks_later old mid new a b = record {
      asked = a.asked ++ b.asked;
      answered = all_later (λ cmd. cmds cmd ⊎ IsQuestion cmd) a.asked b.asked old mid new a.answered b.answered;
    }

    -- these commands are others
    pub asks_so : (others : Cmd → Type 0) (old new : S) → ((c : Cmd) → cmds c → others c) → Way tells state cmds old new → Way tells state others old new
    asks_so others old new widens w = record {
      asked = w.asked;
      answered = all_of (λ cmd. cmds cmd ⊎ IsQuestion cmd) (λ cmd. others cmd ⊎ IsQuestion cmd) (λ c is. ⊎_elim (λ one. inl (widens c one)) (λ question. inr question) is) w.asked old new w.answered;
    }

    -- a way that ends so: with one command, behind another way, and of other commands
    pub ends_with : (cmd : Cmd) (reply : Reply) (old new : S) → cmds cmd → Applies tells state cmd reply old new → WayTo tells state cmds reply old new
    unfolding asks_one
    ends_with cmd reply old new is applies = record { way = asks_one cmd reply old new (inl is) applies; before = []; last = cmd; is = refl }

    pub ends_later : (reply : Reply) (old mid new : S) → Way tells state cmds old mid → WayTo tells state cmds reply mid new → WayTo tells state cmds reply old new
    unfolding asks_later
    ends_later reply old mid new a w = record {
      way = asks_later old mid new a w.way;
      before = a.asked ++ w.before;
      last = w.last;
      is = ap (λ (later : List (Cmd × Reply)). a.asked ++ later) w.is ∙ sym (append_assoc a.asked w.before ((w.last, reply) ∷ []));
    }

    pub ends_so : (others : Cmd → Type 0) (reply : Reply) (old new : S) → ((c : Cmd) → cmds c → others c) → WayTo tells state cmds reply old new → WayTo tells state others reply old new
    unfolding asks_so
    ends_so others reply old new widens w = record { way = asks_so others old new widens w.way; before = w.before; last = w.last; is = w.is }

  -- questions stand on each way
  pub asks_only : (cmds : Cmd → Type 0) (old new : S) → Way tells state (λ cmd. ⊥) old new → Way tells state cmds old new
  asks_only cmds old new w = asks_so (λ cmd. ⊥) cmds old new (λ c none. absurd none) w
