use Rattle.fluent_values.proofs.laws.what_takes_no_memory.Goals as goal

pub returns-clause-textless : goal.returns-clause-textless
returns-clause-textless c = record {
  of_none = tt;
  of_error = tt;
  plain = λ n is. is;
  not_currency = λ n code is h. cc;
  not_owned = λ s h. h;
  not_borrowed = λ t h. h;
  not_custom = λ x h. h;
}

pub returns-clause-borrowed : goal.returns-clause-borrowed
returns-clause-borrowed c = record {
  of_none = tt;
  of_error = tt;
  plain = λ n is. is;
  of_borrowed = λ t. tt;
  not_currency = λ n code is h. cc;
  not_owned = λ s h. h;
  not_custom = λ x h. h;
}

pub returns-clause-currencies : goal.returns-clause-currencies
returns-clause-currencies c = record {
  text = tt;
  not_number = λ h. h;
  not_nothing = λ h. h;
  of_the_number = tt;
  of_the_arguments = tt;
  not_plain = λ h. h;
  not_a_number = λ h. h;
  not_another_name = λ h. h;
  not_the_second = λ h. h;
  not_of_a_text = λ h. h;
  not_of_nothing = λ h. h;
}
