-- What is told of a kind of fault.
use Rattle.std.proofs.Common.{◌≡◌, ◌≢◌, true, false, refl}
use Rattle.clap.specs.declared.error.kind.ErrorKind.{ErrorKind}
use Rattle.clap.specs.declared.error.kind.ErrorKind.TheVariants.{DisplayHelp, DisplayVersion}
use Rattle.fluent_cli_words.specs.Words.{is_help}

pub is_fault : (kind : ErrorKind) → kind ≢ DisplayHelp → kind ≢ DisplayVersion → is_help kind ≡ false
is_fault DisplayHelp help version = absurd (help refl)
is_fault DisplayVersion help version = absurd (version refl)
is_fault _ help version = refl

pub is_shown : (kind : ErrorKind) → ¬ ((kind ≢ DisplayHelp) × (kind ≢ DisplayVersion)) → is_help kind ≡ true
is_shown DisplayHelp shown = refl
is_shown DisplayVersion shown = refl
is_shown _ shown = absurd (shown ((λ is. cc), (λ is. cc)))
