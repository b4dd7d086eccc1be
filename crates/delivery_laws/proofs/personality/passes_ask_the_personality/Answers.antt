use Rattle.delivery_laws.proofs.PersonalityAsks.{answers_search, answers_cleanup, stops_search, takes_search, stops_cleanup}
use Rattle.delivery_laws.proofs.personality.passes_ask_the_personality.Goals as goal

pub returns-clause-search : goal.returns-clause-search
returns-clause-search x image c interrupted frame action asked is in_search = answers_search image c interrupted frame action asked is in_search

pub returns-clause-cleanup : goal.returns-clause-cleanup
returns-clause-cleanup x image c interrupted frame action asked is in_cleanup whole = answers_cleanup image c interrupted frame action asked is in_cleanup whole

pub returns-clause-search_stops : goal.returns-clause-search_stops
returns-clause-search_stops x image c interrupted frame action asked is in_search = stops_search image c interrupted frame action asked is in_search

pub returns-clause-search_takes : goal.returns-clause-search_takes
returns-clause-search_takes x image c interrupted frame action asked is in_search = takes_search image c interrupted frame action asked is in_search

pub returns-clause-cleanup_stops : goal.returns-clause-cleanup_stops
returns-clause-cleanup_stops x image c interrupted frame action asked is in_cleanup whole = stops_cleanup image c interrupted frame action asked is in_cleanup whole
