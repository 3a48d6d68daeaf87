use Rattle.first_format.proofs.laws.first_state.Goals as goal

pub returns-clause-sound : goal.returns-clause-sound
returns-clause-sound c = λ image cores accepted. record {
  placed = c.threads_stand_in_one_place.ensures.first image cores;
  present = c.threads_stand_where_they_say.ensures.first image cores;
  in_range = c.numbers_stay_in_range.ensures.first image cores accepted;
  forms = c.objects_keep_their_forms.ensures.first image cores accepted;
  names = c.what_is_named_is_there.ensures.first image cores;
  apart = c.pages_are_apart.ensures.first image cores accepted;
  fixed = c.fixed_objects_stay.ensures.first image cores;
  threads = c.threads_stay_in_range.ensures.first image cores accepted;
}

pub returns-clause-swept : goal.returns-clause-swept
returns-clause-swept c = λ image cores accepted. (c.saved_is_swept.ensures.first image cores accepted).swept
