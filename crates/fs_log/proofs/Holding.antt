-- Which log the blocks hold after a command.
use Rattle.std.proofs.Common.{◌≡◌, inl, inr, ℕ, Bool, List, Some, refl, sym, ◌∙◌, ap, subst, nat_lt, arith}
use Rattle.std.specs.FinMap.{get}
use Rattle.lang_tree.specs.declared.command.Cmd.{Cmd}
use Rattle.lang_tree.specs.declared.command.Reply.{Reply}
use Rattle.lang_tree.specs.Run.{Answers, is_of_disk}
use Rattle.lang_tree.specs.Step.{Session, step}
use Rattle.lang_tree.specs.Tree.{Tree}
use Rattle.lang_log.specs.Names.{log_path}
use Rattle.lang_log.specs.Segments.{Segment, HasSegments}
use Rattle.lang_log.specs.Log.{Log, IsLogOf, IsMadeOf}
use Rattle.lang_log.specs.History.{History}
use Rattle.engine_blocks.specs.State.{State}
use Rattle.crash_stands.specs.Bounds.{bounds_of}
use Rattle.fs_session.specs.Sessions.{IsSession, Stands}
use Rattle.fs_log.specs.Keeping.{HoldsLog, Keeps}
use Rattle.fs_log.specs.Asked.{Asked, AskedOf}

-- blocks in which a tree stands are those of a session
pub session_of : (s : State) → Stands s → (f : Session) × IsSession s f
session_of s stands = (
  record { tree = stands.0; limit = bounds_of s.books.geom; points = s.books.point; changed = nat_lt 0 s.books.running.weight; durable = s.books.floor },
  record { tree = stands.1; limit = refl; points = λ going. refl; changed = λ going. refl; durable = omega arith },
)

-- the log that they hold is the one that they have now
pub same_log : ((t : Tree) (l k : Log) → IsLogOf t l → IsLogOf t k → l ≡ k) → (s : State) (segments : List Segment) (l : Log) (h : History) → HoldsLog segments l s → Keeps h s → h.now ≡ l
same_log one s segments l h holds keeps =
    let stands = holds.stands in
    one stands.0 h.now l (keeps.now stands.0 stands.1) (record { segments = segments; has = holds.has stands.0 stands.1; made = holds.made })

module _ {S : Type 0} (tells : Bool) (state : S → State) (cmd : Cmd) (reply : Reply) (f : Session) (old new : S) (a : Asked tells state cmd reply f old new) (segments : List Segment) (l : Log) where
  -- the segments of the tree after the command are those of the blocks
  pub held : HasSegments a.next.tree segments → IsMadeOf segments l → (n : ℕ) → get a.next.tree.names log_path ≡ Some n → HoldsLog segments l (state new)
  held has made n at = record {
    stands = (a.next.tree, a.session.tree);
    has = λ t is. subst (λ u. HasSegments u segments) (sym (a.only t is)) has;
    there = λ t is. (n, ap (λ u. get u.names log_path) (a.only t is) ∙ at);
    made = made;
  }

  -- where the command leaves the tree, they are those from before
  pub still : a.next.tree ≡ f.tree → IsSession (state old) f → HoldsLog segments l (state old) → HoldsLog segments l (state new)
  still same session before =
      let at = before.there f.tree session.tree in
      held (subst (λ u. HasSegments u segments) (sym same) (before.has f.tree session.tree)) before.made at.0 (ap (λ u. get u.names log_path) same ∙ at.1)

-- a command that the tree answers without a change, or that is refused, leaves it
leaves_tree : (f next : Session) (cmd : Cmd) (reply : Reply) → (step f cmd).0.tree ≡ f.tree → Answers is_of_disk f cmd reply next → next.tree ≡ f.tree
leaves_tree f next cmd reply same (inl is) = sym (ap (λ x. x.0.tree) is) ∙ same
leaves_tree f next cmd reply same (inr (inl refused)) = ap (λ f. f.tree) refused.3
leaves_tree f next cmd reply same (inr (inr known)) = ap (λ f. f.tree) known.1.same

pub same_tree : {S : Type 0} (tells : Bool) (state : S → State) (cmd : Cmd) (reply : Reply) (old new : S) → ((f : Session) → (step f cmd).0.tree ≡ f.tree) → AskedOf tells state cmd reply old new → (segments : List Segment) (l : Log) → HoldsLog segments l (state old) → HoldsLog segments l (state new)
same_tree tells state cmd reply old new leaves asked segments l before =
    let f = session_of (state old) before.stands in
    let a = asked f.0 f.1 in
    still tells state cmd reply f.0 old new a segments l (leaves_tree f.0 a.next cmd reply (leaves f.0) a.answers) f.1 before
