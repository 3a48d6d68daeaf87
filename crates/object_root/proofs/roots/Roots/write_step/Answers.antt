use Rattle.object_root.proofs.roots.Roots.write_step.Goals as goal

-- src/roots.rt:146:5
pub returns-in-Records-Stored-clause-shows : goal.returns-in-Records-Stored-clause-shows
returns-in-Records-Stored-clause-shows c v saved next is_record shows = c.flush_record.ensures.shows v saved next shows
