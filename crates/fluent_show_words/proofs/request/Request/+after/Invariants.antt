use Rattle.std.proofs.Common.{length}
use Rattle.fluent_show_words.proofs.request.Request.+after.Given as goal

abbrev pub decreases-after : goal.decreases-after
decreases-after l = length l.words.now
