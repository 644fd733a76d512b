use Rattle.lang_script.proofs.OneText.{one_command, one_reply, command_no_feed, reply_no_feed}
use Rattle.lang_script.proofs.laws.equal_texts_have_equal_values.Goals as goal

pub returns-clause-command : goal.returns-clause-command
returns-clause-command c = one_command

pub returns-clause-reply : goal.returns-clause-reply
returns-clause-reply c = one_reply

pub returns-clause-command_line : goal.returns-clause-command_line
returns-clause-command_line c = command_no_feed

pub returns-clause-reply_line : goal.returns-clause-reply_line
returns-clause-reply_line c = reply_no_feed
