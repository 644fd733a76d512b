-- One command more of a load.
use Rattle.std.proofs.Common.{◌≡◌, ℕ, ◌+◌, ◌^◌, ◌-◌, ◌<◌, ◌≤◌, Bool, true, false, true≢false, if◌then◌else◌, refl, sym, ap, ◌∙◌, subst, arith}
use Rattle.std.proofs.lemmas.Bool.{leb-true}
use Rattle.layout_geometry.specs.Geometry.{Geometry, bitmap_blocks}
use Rattle.lang_tree.specs.declared.command.Cmd.{Cmd}
use Rattle.lang_tree.specs.declared.command.Reply.{Reply}
use Rattle.lang_tree.specs.Conditions.{refusal}
use Rattle.lang_tree.specs.Points.{is_refusal, is_sync}
use Rattle.lang_tree.specs.Step.{Session}
use Rattle.engine_blocks.specs.State.{State}
use Rattle.fs_session.specs.DiskRoom.{AnswersOn}
use Rattle.fs_session.specs.Memory.{room_of}
use Rattle.fs_session.specs.NothingKept.{CostsAsAlone}
use Rattle.fs_session.specs.Room.{most_weight}
use Rattle.fs_session.specs.Sessions.{IsSession}
use Rattle.cmd_load.specs.Summary.{Progress, after, answer_to, done_by, figures_of, load_refusal, shape}
use Rattle.cmd_load.specs.Serving.{IsAnswered, Serves, has_run_out}
use Rattle.cmd_load.specs.Trees.{IsLoadTree}
use Rattle.cmd_load.proofs.Folds.{Comes, IsCalm, comes, frees_by}
use Rattle.cmd_load.proofs.Trees.{IsLoadCommand, answered_tree}

-- where nothing is weighed behind a command, nothing is held
none_behind : (p : Progress) (cmd : Cmd) → IsLoadCommand cmd → (p.weight ≡ 0 → p.held ≡ 0) → (after p cmd).weight ≡ 0 → (after p cmd).held ≡ 0
none_behind p cmd law none = by (is_refusal (answer_to p cmd).1)
  where
    synced : (b : Bool) → (if b then 0 else p.weight + (figures_of p cmd).cost) ≡ 0 → (if b then 0 else p.held + (figures_of p cmd).freed) ≡ 0
    synced true e = refl
    synced false e = omega (arith, none (omega (arith, e)), frees_by (bitmap_blocks shape) p.session.limit p.session.tree cmd (refusal p.session.limit p.session.tree cmd) law (omega (arith, e)))

    by : (b : Bool) → (if b then record p { refused = p.refused + 1 } else done_by p cmd (answer_to p cmd).0).weight ≡ 0 → (if b then record p { refused = p.refused + 1 } else done_by p cmd (answer_to p cmd).0).held ≡ 0
    by true e = none e
    by false e = synced (is_sync cmd) e

module _ (p : Progress) (made : ℕ) (cmd : Cmd) (reply : Reply) (old new : State) (unshared : CostsAsAlone) (law : IsLoadCommand cmd) (few : made < 2000) (s : Serves p made old) (a : IsAnswered cmd reply old new) (run_on : has_run_out reply ≡ false) where
  calm : IsCalm reply
  calm = record {
    memory = run_on;
    read = λ is. true≢false (sym (a.reads p.session s.session is) ∙ ap (λ m. m.reads_fail) a.manner ∙ s.readable);
    going = λ is. true≢false (sym (a.stops p.session s.session is) ∙ s.going);
    unspent = λ is. absurd (omega (arith, few, s.turns, leb-true (2 ^ 63 - 8) old.books.turns (a.spent p.session s.session is)));
  }

  low : p.weight ≤ most_weight shape
  low = omega (arith, (a.room p.session s.session).fits, s.weight, ap (λ (g : Geometry). most_weight g) s.geom)

  abbrev next : Session
  next = (a.answers p.session s.session).0

  came : Comes p cmd reply next (room_of new)
  came = comes p (room_of old) reply next (room_of new) s.tree.alone unshared s.weight s.held low s.none s.tree calm cmd law
      (subst (λ (g : Geometry). AnswersOn g p.session (room_of old) cmd reply next (room_of new)) s.geom (a.answers p.session s.session).3)

  counted : (n : ℕ) (b : Bool) → p.refused ≤ n → p.refused + (if b then 1 else 0) ≤ n + 1
  counted n b h = grind arith

  pub serves_on : Serves (after p cmd) (made + 1) new
  serves_on =
      let answered = a.answers p.session s.session in
      record {
        session = subst (λ (f : Session). IsSession new f) came.session answered.1;
        geom = answered.2 ∙ s.geom;
        weight = came.weight;
        held = came.held;
        going = a.going s.going run_on;
        readable = ap (λ m. m.reads_fail) a.manner ∙ s.readable;
        tree = subst (λ (f : Session). IsLoadTree f.tree) (ap (λ (x : Session × Reply). x.0) (sym came.answer) ∙ came.session) (answered_tree p.session cmd (load_refusal p cmd) law s.tree);
        none = none_behind p cmd law s.none;
        refused = subst (λ (n : ℕ). n ≤ made + 1) (sym came.refused) (counted made (is_refusal reply) s.refused);
        turns = omega (arith, a.turns, s.turns);
      }

  pub refused_on : (after p cmd).refused ≡ p.refused + (if is_refusal reply then 1 else 0)
  refused_on = came.refused
