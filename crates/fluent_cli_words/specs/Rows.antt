-- Worked rows: what words give, and what is wrong with them.
use Rattle.std.specs.Prelude.{◌≡◌, true, false, List, [], ◌∷◌, Option, Some, None, length, option_map, refl, codes}
use Rattle.std.specs.List.{before_first}
use Rattle.std.specs.Option.{option_map_or}
use Rattle.clap.specs.Faults.{fault_of}
use Rattle.clap.specs.Simple.{subcommand_of}
use Rattle.clap.specs.Walk.{Row, Text, first_of}
use Rattle.clap.specs.declared.error.kind.ErrorKind.TheVariants as kind
use Rattle.clap.proofs.OnLiterals.{clap_on_literals}
use Rattle.fluent_cli_words.specs.Commands.{program}
use Rattle.fluent_cli_words.specs.Faults.{check_fault, is_kind, kind_names, show_fault}
use Rattle.fluent_cli_words.specs.Given.{argument_in, arguments_in, attribute_in, format_named, format_of, id_in, is_argument, is_dot, is_given, values_of}
use Rattle.fluent_cli_words.specs.Words.{fault_text}
use Rattle.fluent_cli_words.specs.declared.request.Format.TheVariants as format

abbrev name_in : List Text → Option Text
name_in words = option_map (λ found. found.0) (subcommand_of program words)

abbrev given_in : List Text → List Row
given_in words = option_map_or (λ found. found.1) (subcommand_of program words) []

-- ---- check

-- check --strict --color --with brand.ftl pl.ftl --reference en.ftl --with=more.ftl --format json - --allow cycle --function F
abbrev checked : List Text
checked =
    codes "check" ∷ codes "--strict" ∷ codes "--color" ∷ codes "--with" ∷ codes "brand.ftl" ∷ codes "pl.ftl" ∷ codes "--reference" ∷ codes "en.ftl"
    ∷ codes "--with=more.ftl" ∷ codes "--format" ∷ codes "json" ∷ codes "-" ∷ codes "--allow" ∷ codes "cycle"
    ∷ codes "--function" ∷ codes "F" ∷ []

check_taken : (fault_of program checked ≡ []) × (name_in checked ≡ Some (codes "check"))
unfolding clap_on_literals
check_taken = (refl, refl)

check_files : (values_of (codes "file") (given_in checked) ≡ codes "pl.ftl" ∷ codes "-" ∷ [])
    × (values_of (codes "reference") (given_in checked) ≡ codes "en.ftl" ∷ [])
    × (values_of (codes "with") (given_in checked) ≡ codes "brand.ftl" ∷ codes "more.ftl" ∷ [])
    × (first_of (codes "translation") (given_in checked) ≡ None)
unfolding clap_on_literals
check_files = (refl, refl, refl, refl)

check_options : (is_given (codes "strict") (given_in checked) ≡ true) × (is_given (codes "each") (given_in checked) ≡ false)
    × (is_given (codes "caret") (given_in checked) ≡ false) × (is_given (codes "color") (given_in checked) ≡ true)
    × (is_given (codes "quiet") (given_in checked) ≡ false) × (is_given (codes "all-categories") (given_in checked) ≡ false)
    × (format_of (given_in checked) ≡ format.Json) × (values_of (codes "allow") (given_in checked) ≡ codes "cycle" ∷ [])
    × (values_of (codes "function") (given_in checked) ≡ codes "F" ∷ [])
unfolding clap_on_literals
check_options = (refl, refl, refl, refl, refl, refl, refl, refl, refl)

check_fine : check_fault (given_in checked) ≡ None
unfolding clap_on_literals is_kind
check_fine = refl

-- check pl.ftl: the format is plain text where none is given
plain_format : format_of (given_in (codes "check" ∷ codes "pl.ftl" ∷ [])) ≡ format.Text
unfolding clap_on_literals
plain_format = refl

-- ---- what is wrong with a check

-- check
no_file : check_fault (given_in (codes "check" ∷ [])) ≡ Some (codes "there is no FILE to check")
unfolding clap_on_literals
no_file = refl

-- check --format yaml pl.ftl
no_format : check_fault (given_in (codes "check" ∷ codes "--format" ∷ codes "yaml" ∷ codes "pl.ftl" ∷ []))
    ≡ Some (codes "a format is text, json, github or sarif, and 'yaml' is not")
unfolding clap_on_literals
no_format = refl

-- check --allow cycle --allow circle pl.ftl
no_kind : check_fault (given_in (codes "check" ∷ codes "--allow" ∷ codes "cycle" ∷ codes "--allow" ∷ codes "circle" ∷ codes "pl.ftl" ∷ []))
    ≡ Some (codes "there is no kind of finding 'circle'")
unfolding clap_on_literals is_kind
no_kind = refl

-- check --translation pl --reference en --with brand
folders : check_fault (given_in (codes "check" ∷ codes "--translation" ∷ codes "pl" ∷ codes "--reference" ∷ codes "en" ∷ codes "--with" ∷ codes "brand" ∷ []))
    ≡ None
unfolding clap_on_literals
folders = refl

-- check --translation pl
no_reference : check_fault (given_in (codes "check" ∷ codes "--translation" ∷ codes "pl" ∷ []))
    ≡ Some (codes "--translation FOLDER goes with --reference FOLDER alone")
unfolding clap_on_literals
no_reference = refl

-- check --translation pl --reference en pl.ftl
too_much : check_fault (given_in (codes "check" ∷ codes "--translation" ∷ codes "pl" ∷ codes "--reference" ∷ codes "en" ∷ codes "pl.ftl" ∷ []))
    ≡ Some (codes "--translation FOLDER goes with --reference FOLDER alone")
unfolding clap_on_literals
too_much = refl

-- check --each --reference en.ftl pl.ftl
each_reference : check_fault (given_in (codes "check" ∷ codes "--each" ∷ codes "--reference" ∷ codes "en.ftl" ∷ codes "pl.ftl" ∷ []))
    ≡ Some (codes "--each goes without --reference; --translation takes each file for itself")
unfolding clap_on_literals
each_reference = refl

-- check --each pl.ftl
each_alone : check_fault (given_in (codes "check" ∷ codes "--each" ∷ codes "pl.ftl" ∷ [])) ≡ None
unfolding clap_on_literals
each_alone = refl

kinds_there_are : length kind_names ≡ 27
kinds_there_are = refl

fault_said : fault_text (codes "no") ≡ codes "error: no\n\nFor more information, try '--help'.\n"
fault_said = refl

-- ---- show

-- show --fallback en.ftl pl.ftl about.title.long n=5 --text=k=a=b m=
abbrev shown : List Text
shown =
    codes "show" ∷ codes "--fallback" ∷ codes "en.ftl" ∷ codes "pl.ftl" ∷ codes "about.title.long" ∷ codes "n=5" ∷ codes "--text=k=a=b"
    ∷ codes "m=" ∷ []

show_taken : (fault_of program shown ≡ []) × (name_in shown ≡ Some (codes "show")) × (show_fault (given_in shown) ≡ None)
unfolding clap_on_literals
show_taken = (refl, refl, refl)

show_what : (values_of (codes "file") (given_in shown) ≡ codes "pl.ftl" ∷ []) × (values_of (codes "fallback") (given_in shown) ≡ codes "en.ftl" ∷ [])
    × (before_first is_dot (id_in (given_in shown)) ≡ codes "about") × (attribute_in (id_in (given_in shown)) ≡ Some (codes "title.long"))
    × (arguments_in (given_in shown) ≡ (codes "n", codes "5", false) ∷ (codes "m", [], false) ∷ (codes "k", codes "a=b", true) ∷ [])
unfolding clap_on_literals
show_what = (refl, refl, refl, refl, refl)

-- show pl.ftl about n
no_value : show_fault (given_in (codes "show" ∷ codes "pl.ftl" ∷ codes "about" ∷ codes "n" ∷ []))
    ≡ Some (codes "an argument is NAME=VALUE, and 'n' is not")
unfolding clap_on_literals
no_value = refl

-- show --with brand.ftl --function F pl.ftl about --function G
abbrev pub loaded : List Row
loaded =
    given_in (codes "show" ∷ codes "--with" ∷ codes "brand.ftl" ∷ codes "--function" ∷ codes "F" ∷ codes "pl.ftl" ∷ codes "about"
    ∷ codes "--function" ∷ codes "G" ∷ [])

show_loaded : (values_of (codes "with") loaded ≡ codes "brand.ftl" ∷ []) × (values_of (codes "function") loaded ≡ codes "F" ∷ codes "G" ∷ [])
unfolding clap_on_literals
show_loaded = (refl, refl)

no_attribute_named : attribute_in (codes "about") ≡ None
no_attribute_named = refl

arguments : (is_argument (codes "n=") ≡ true) × (is_argument (codes "n") ≡ false) × (is_argument (codes "=5") ≡ false)
    × (argument_in true (codes "k=a=b") ≡ (codes "k", codes "a=b", true))
arguments = (refl, refl, refl, refl)

formats : (format_named (codes "sarif") ≡ Some format.Sarif) × (format_named (codes "Text") ≡ None)
formats = (refl, refl)

-- ---- what `clap` finds first

-- --help, check --help, help
help_wanted : (fault_of program (codes "--help" ∷ []) ≡ kind.DisplayHelp ∷ [])
    × (fault_of program (codes "check" ∷ codes "--help" ∷ []) ≡ kind.DisplayHelp ∷ [])
    × (fault_of program (codes "help" ∷ []) ≡ kind.DisplayHelp ∷ kind.InvalidSubcommand ∷ [])
unfolding clap_on_literals
help_wanted = (refl, refl, refl)

-- --version
version_wanted : fault_of program (codes "--version" ∷ []) ≡ kind.DisplayVersion ∷ []
unfolding clap_on_literals
version_wanted = refl

-- no words, check --sort pl.ftl, check --strict --strict pl.ftl, show pl.ftl, list
not_taken : (fault_of program [] ≡ kind.DisplayHelpOnMissingArgumentOrSubcommand ∷ [])
    × (fault_of program (codes "check" ∷ codes "--sort" ∷ codes "pl.ftl" ∷ []) ≡ kind.UnknownArgument ∷ [])
    × (fault_of program (codes "check" ∷ codes "--strict" ∷ codes "--strict" ∷ codes "pl.ftl" ∷ []) ≡ kind.ArgumentConflict ∷ [])
    × (fault_of program (codes "show" ∷ codes "pl.ftl" ∷ []) ≡ kind.MissingRequiredArgument ∷ [])
    × (fault_of program (codes "list" ∷ []) ≡ kind.MissingRequiredArgument ∷ [])
unfolding clap_on_literals
not_taken = (refl, refl, refl, refl, refl)
