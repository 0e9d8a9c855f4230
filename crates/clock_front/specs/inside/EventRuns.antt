-- How the list of a run's replies grows, and the parts of requests and replies.
--     numbers_of_requests requests, texts_of requests      the connections of requests; their bytes
--     numbers_of replies, answers_of replies      the connections of replies; the replies only
--     kept replies one      the replies, followed by one more if there is one
use Rattle.std.specs.Prelude.{ℕ, ◌++◌, List, [], ◌∷◌, map, Option, Some, None}
use Rattle.clock_api.specs.Replies.{Answer}
use Rattle.clock_front.specs.declared.runs.EventReply.{EventReply}

-- The number of each request's connection.
abbrev pub numbers_of_requests : List (ℕ × List ℕ) → List ℕ
numbers_of_requests requests = map (λ request. request.0) requests

-- The bytes of each request.
abbrev pub texts_of : List (ℕ × List ℕ) → List (List ℕ)
texts_of requests = map (λ request. request.1) requests

-- The number of each reply's connection.
abbrev pub numbers_of : List EventReply → List ℕ
numbers_of replies = map (λ one. one.number) replies

-- The replies without their connections.
abbrev pub answers_of : List EventReply → List Answer
answers_of replies = map (λ one. one.reply) replies

-- The replies, followed by one more if there is one.
abbrev pub kept : List EventReply → Option EventReply → List EventReply
kept replies None = replies
kept replies (Some one) = replies ++ one ∷ []
