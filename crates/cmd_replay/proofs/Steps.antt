-- What the answer of a tree in memory tells of its session and of its last point.
use Rattle.std.proofs.Common.{◌≡◌, ◌⊎◌, inl, inr, sym, ap, ◌∙◌, ℕ, true, false}
use Rattle.lang_tree.specs.declared.command.Cmd.{Cmd}
use Rattle.lang_tree.specs.declared.command.Reply.{Reply}
use Rattle.lang_tree.specs.declared.command.Reply.TheVariants.{Refused}
use Rattle.lang_tree.specs.declared.command.Refusal.TheVariants.{NoMemory}
use Rattle.lang_tree.specs.Step.{Session, step}
use Rattle.cmd_trace_reader.specs.Replies.{is_out_of_memory, points_by}

-- the answer of a tree in memory that found memory
pub answer_tells : (old new : Session) (cmd : Cmd) (reply : Reply) (synced now : ℕ) → (step old cmd ≡ (new, reply)) ⊎ ((reply ≡ Refused NoMemory) × (new ≡ old)) → is_out_of_memory reply ≡ false → synced ≡ old.points
    → (step old cmd).0.points ≡ points_by (step old cmd).1 old.points → now ≡ points_by reply synced → (new ≡ (step old cmd).0) × (now ≡ new.points)
answer_tells old new cmd reply synced now (inl is) calm same tells counted =
    let session : (step old cmd).0 ≡ new = ap (λ (r : Session × Reply). r.0) is in
    let answer : (step old cmd).1 ≡ reply = ap (λ (r : Session × Reply). r.1) is in
    (sym session, counted ∙ ap (points_by reply) same ∙ ap (λ (r : Reply). points_by r old.points) (sym answer) ∙ sym tells ∙ ap (λ (s : Session). s.points) session)
answer_tells old new cmd reply synced now (inr refused) calm same tells counted = absurd (lacks (sym (ap is_out_of_memory refused.0) ∙ calm))
  where
    lacks : true ≡ false → ⊥
    lacks h = cc h
