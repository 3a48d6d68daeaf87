use Rattle.mem_space.proofs.RegionTests.{covers_by_test, shares_by_test, shares_by_ends, shares_no_page}
use Rattle.mem_space.proofs.laws.region_tests.Goals as goal

pub returns-clause-covers : goal.returns-clause-covers
returns-clause-covers c = covers_by_test

pub returns-clause-shares : goal.returns-clause-shares
returns-clause-shares c = shares_by_test

pub returns-clause-by_ends : goal.returns-clause-by_ends
returns-clause-by_ends c = shares_by_ends

pub returns-clause-no_page : goal.returns-clause-no_page
returns-clause-no_page c = shares_no_page
