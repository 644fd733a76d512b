use Rattle.std.proofs.Common.{◌≡◌, ◌∙◌, sym, ap, refl, true}
use Rattle.std.proofs.lemmas.Bool.{true≢false}
use Rattle.std.proofs.lemmas.Slice.Eq.{bytes_eq-Decides}
use Rattle.lang_tree.specs.declared.command.Cmd.{Cmd}
use Rattle.lang_tree.specs.declared.command.Cmd.TheVariants.{Bad}
use Rattle.lang_script.specs.Grammar.{command_of, is_in_grammar}
use Rattle.lang_script.specs.Text.{command_text}
use Rattle.lang_script.specs.Values.{IsCommand}
use Rattle.cmd_trace.proofs.read.command_in.Goals as goal

-- a text of a command asks for that command; that of none asks for none
reads_back : ((cmd : Cmd) → is_in_grammar cmd ≡ true → command_of (command_text cmd) ≡ cmd) → (cmd : Cmd) → IsCommand cmd → command_of (command_text cmd) ≡ cmd
reads_back read Bad lawful = refl
reads_back read other lawful = read other lawful

pub returns : goal.returns
returns c = λ cmd lawful e.
    let found : c.in_ok-cmd.cmd ≡ cmd = c.in_ok-cmd.ensures.read ∙ ap command_of (sym e) ∙ reads_back c.lines_are_commands.ensures.read cmd lawful in
    let same : c.as_slice.result.now ≡ c.args.text.now = c.as_slice.ensures.value ∙ c.in_ok-written.ensures.text ∙ ap command_text found ∙ e in
    true≢false (sym ((bytes_eq-Decides c.as_slice.result.now c.args.text.now).1 same) ∙ sym c.if-eq.ensures)
